-- The worked cases of 01 and 02 follow from the rules: both sides of each compute to the same.
use mathlib.Core.Path.{refl}
use lib.Ieee.{of_bits, to_bits, le, add, mul, div, of_int, to_unsigned}
use Rattle.rank.specs.Rank.{entry}
use Rattle.bounds.specs.Scan.{bound}
use Rattle.lanes.specs.Score.{score}
use Rattle.lines.specs.Lines.{line_threshold, smooth, is_line, lines_of, estimate, narrow_gap}
use Rattle.votes.specs.Votes.{winner}
use Rattle.reading.specs.Reading.{quarters_of, reading_of}
use Rattle.sample.specs.Sample.{sampled_at, pitch_outside, corner_above, record_answer, numbers_above, on_board, cell_answer}
use Rattle.strips.specs.Strip.{scores}
use Rattle.cases.specs.Cases.{All, cases, requested}
use Rattle.binary32.specs.Binary32.{unit}
use Rattle.board.specs.Board.{outside, sides_outside}
use Rattle.board.specs.Planes.{planes_answer}
use Rattle.load.specs.Load.{level}
use Rattle.text.specs.Text.{decimal}
use Rattle.sample.specs.Fit.{fit_answer}
use Rattle.map.specs.Map.{green_level, mark_at, row_line, map_text, print_answer, map_answer}
use Rattle.cases.specs.Maps.{AllMaps, printed_maps}

pub worked : All cases
unfolding of_bits le add mul div of_int to_unsigned entry bound score line_threshold smooth is_line lines_of estimate
    narrow_gap winner quarters_of reading_of sampled_at on_board
worked = (refl, (refl, ((λ E. refl), (refl, (refl, (refl, (refl, (refl, (refl, ((refl, refl), ((refl, refl), (refl, (refl, ((refl, refl), tt))))))))))))))

pub worked_requests : All requested
unfolding of_bits le add mul div of_int to_unsigned score scores sampled_at pitch_outside corner_above record_answer
    numbers_above on_board cell_answer
worked_requests =
    (refl, ((refl, refl), ((refl, refl), (refl, (refl, (refl, (refl, (refl, (refl, (refl, (refl, tt)))))))))))

pub worked_maps : AllMaps printed_maps
unfolding of_bits to_bits le add mul div of_int to_unsigned unit level decimal sampled_at green_level mark_at row_line map_text outside
    sides_outside planes_answer pitch_outside corner_above record_answer fit_answer print_answer map_answer
worked_maps =
    (refl, (refl, (refl, (refl, (refl, (refl, (refl, (refl, (refl, (refl, (refl, (refl, (refl, (refl, tt))))))))))))))
