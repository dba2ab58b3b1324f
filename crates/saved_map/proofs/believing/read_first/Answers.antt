use Rattle.std.proofs.Common.{◌≡◌, List, ℕ, None, subst}
use Rattle.saved_map.specs.Reading.{IsFirstPart}
use Rattle.saved_map.proofs.ReadingLaws.{only_bytes}
use Rattle.saved_map.proofs.believing.read_first.Goals as goal

pub returns-in-Some-clause-none : goal.returns-in-Some-clause-none
returns-in-Some-clause-none g c same h bytes head at part =
    let here : bytes ≡ c.in-Some.bytes =
    only_bytes (g.M.Machine.now c.read_sector.new.m).image c.map_start.result _ c.in_ok-bytes.field-0 c.in-Some.bytes bytes c.map_start.ensures.value (c.in_ok-bytes.ensures.shown h) c.in-Some.is at in
    let none : c.first_part.result ≡ None = cc in
    c.first_part.ensures.none none head (subst (λ (b : List ℕ). IsFirstPart c.args.l.now c.args.epoch b head) here part)
