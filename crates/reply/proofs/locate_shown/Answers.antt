-- `reply::locate_shown` meets its contract: the arrays are long enough for sides up to `most_shown`.
use mathlib.Core.Path.{refl}
use Rattle.reply.proofs.Locating.{locates}
use borrow.Author.Rules.{rules}
use Rattle.reply.proofs.locate_shown.Goals as goal

pub returns : goal.returns
returns c =
    locates c.get_pos_pixel.ensures.0 c.requires.0 c.requires.1 c.requires.2 refl refl refl refl refl
