-- For the code alone: what blocks stand for. No contract of an entry point reaches this.
use Rattle.board.specs.Screen.{Screen, view}
use Rattle.narrow.specs.Narrow.{narrowed}
use Rattle.narrow.specs.declared.Blocks.{Blocks}

-- the narrowed screen
abbrev pub points : Blocks → Screen
points b = narrowed b.factor.value (view b.height b.width b.planes.now)
