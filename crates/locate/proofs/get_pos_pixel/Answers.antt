-- The promise with the contract: a refusal by the checks, or the work on scratch of 01's lengths.
use Rattle.std.proofs.Common.{◌∙◌, refl, sym, arith}
use lib.ListN.{length-take}
use lib.Seq.{drop_at, length-take-le}
use Rattle.locate.proofs.Working.{accepts}
use Rattle.locate.proofs.get_pos_pixel.Goals as goal

pub work-requires : goal.work-requires
work-requires c =
    let ok = c.in-Ok.ensures in
    record {
      fit = ok.fit;
      room = record {
        edges_in = ok.room.edges_in;
        scores_in = ok.room.scores_in;
        f32_in = simp length-take (omega (arith, ok.room.f32_in));
        u8_in = simp length-take (omega (arith, ok.room.u8_in));
        u32_in = simp length-take (omega (arith, ok.room.u32_in));
      };
    }

pub returns : goal.returns
returns c =
    let ok = c.in-Ok.ensures in
    let after = c.work.new in
    let same = c.work.auto in
    accepts c.args.b c.args.factor _ _ _ _ (sym ok.answer) (rw ok.value at c.work.ensures)
    refl refl refl refl refl refl
    (record {
      f32_kept = drop_at after.scratch_f32 _ _ (same.scratch_f32 ∙ length-take-le _ _ ok.room.f32_in);
      u8_kept = drop_at after.scratch_u8 _ _ (same.scratch_u8 ∙ length-take-le _ _ ok.room.u8_in);
      u32_kept = drop_at after.scratch_u32 _ _ (same.scratch_u32 ∙ length-take-le _ _ ok.room.u32_in);
    })
