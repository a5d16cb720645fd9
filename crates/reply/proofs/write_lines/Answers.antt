use Rattle.std.proofs.Common.{arith}
use Rattle.reply.proofs.Writing.{whole, both}
use Rattle.reply.proofs.write_lines.Goals as goal

pub put_bytes-next-requires : goal.put_bytes-next-requires
put_bytes-next-requires c = omega (arith, whole c.args.values.now c.requires)

pub put_numbers-requires : goal.put_numbers-requires
put_numbers-requires c =
    let names = c.put_bytes-next.ensures in
    omega (arith, whole c.args.values.now c.requires, names.next_is, names.placed.len)

pub returns : goal.returns
returns c =
    let lines = both c.args.values.now c.put_bytes-next.ensures c.put_numbers.ensures c.requires in
    record { length_is = lines.0; front = lines.1 }
