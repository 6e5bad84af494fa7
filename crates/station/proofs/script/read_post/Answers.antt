use Rattle.std.proofs.Common.{◌≡◌, arith, length-drop}
use Rattle.layout.specs.Bytes.{be32}
use Rattle.commands.proofs.Rest.{rest_all}
use Rattle.station.proofs.Scripts.{posts}
use Rattle.station.proofs.script.read_post.Goals as goal

pub returns-in-len6-up : goal.returns-in-len6-up
returns-in-len6-up c =
    let value : c.from_be_bytes-value.result ≡ be32 c.args.operands.now 2 = omega (arith, c.from_be_bytes-value.ensures) in (
      posts c.args.operands.now _ _ c.in-len6-up.len_at_least value (rest_all 6 c.args.operands.now),
      rw (rest_all 6 c.args.operands.now) (omega (arith, length-drop 6 c.args.operands.now)),
    )
