use Rattle.std.proofs.Common.{◌≡◌, refl, ◌++◌}
use Rattle.fsd_bytes.specs.Bytes.{zeros}
use Rattle.version_data.proofs.LeaderLaws.{front, leader_spelled}
use Rattle.version_data.proofs.leader.leader_bytes.Goals as goal

pub returns : goal.returns
returns c =
    let begun : c.put_u8.new.b ≡ front c.args.x.now ++ zeros 495 = rw (c.put_u8.ensures, c.put_u32-3.ensures, c.put_u32-2.ensures, c.put_u32.ensures, c.put_bytes.ensures, c.as_slice-runs.ensures.value) refl in
    leader_spelled c.args.x.now c.put_u8.new.b c.put_bytes-2.new.out c.as_slice-runs.ensures.fits begun c.put_bytes-2.ensures
