-- How a dump ends, by its survey and by what is said.
use Rattle.std.proofs.Common.{◌≡◌, inl, inr, ℕ, suc, List, [], ◌∷◌, ◌++◌, length, take, ap, ◌∙◌}
use Rattle.std.specs.Prelude.{Result, Ok, Err}
use Rattle.std.specs.List.{AllByRecursion, concat}
use Rattle.fsd_bytes.specs.declared.key.Key.{Key}
use Rattle.fsd_bytes.specs.declared.refusal.Refusal.{Refusal}
use Rattle.fsd_bytes.specs.declared.refusal.Refusal.TheVariants as Why
use Rattle.sector_disk.specs.Machine.{Moment}
use Rattle.fsd_files.specs.Disk.{Image}
use Rattle.fsd_files.specs.Kept.{IsWhole}
use Rattle.fsd_files.specs.Scrub.{Picks}
use Rattle.fsd_files.specs.Volume.{Volume}
use Rattle.fsd_runs.specs.declared.span.Span.{Span}
use Rattle.fsd_runs.specs.Dumps.{AreWhole, chosen, dump_of}
use Rattle.scrub.specs.Walk.{IsFromOutside}
use Rattle.volume_dump.specs.declared.fault.DumpFault.{DumpFault}
use Rattle.volume_dump.specs.declared.fault.DumpFault.TheVariants.{Refused, Found, Cut, Output, Memory}
use Rattle.volume_dump.specs.Dump.{EndsDump, SaysFirst}
use Rattle.volume_dump.specs.Saying.{EndsSaying}
use Rattle.volume_dump.specs.Told.{told_as}

-- none is found where all are whole
pub none_hurt : (i j : Image) (xs : List (Key × ℕ)) (found : List (Key × ℕ)) → found ≡ [] → Picks i j xs found → AllByRecursion (λ x. IsWhole i x.1) xs
none_hurt i j [] found none picks = tt
none_hurt i j (x ∷ xs) found none (inl (whole, rest)) = (whole, none_hurt i j xs found none rest)
none_hurt i j (x ∷ xs) found none (inr (more, is, hurt, rest)) = absurd (cc (none, is))

module _ (span : Span) (v : Volume) (a b c : Moment) (quiet : b.said ≡ a.said) where
  module _ (whole : AreWhole a.image (chosen span v.entries)) where
    parts_since : SaysFirst span v b c → SaysFirst span v a c
    parts_since first = record { count = first.count; more = first.more; said = first.said ∙ ap (λ (xs : List ℕ). xs ++ concat (take first.count (dump_of span v))) quiet }

    -- nothing was damaged
    pub saying_ends : (count : ℕ) → count ≡ length (chosen span v.entries) → (r : Result ℕ DumpFault) → EndsSaying span v b c count r → EndsDump span v a c r
    saying_ends count is (Ok n) ends = record { whole = whole; counts = ends.0 ∙ is; said = ends.1 ∙ ap (λ (xs : List ℕ). xs ++ concat (dump_of span v)) quiet }
    saying_ends count is (Err (Cut s)) ends = (whole, record { count = ends.count; spoilt = ends.spoilt; said = ends.said ∙ ap (λ (xs : List ℕ). xs ++ concat (take (suc ends.count) (dump_of span v))) quiet })
    saying_ends count is (Err Output) ends = whole
    saying_ends count is (Err Memory) ends = inr (whole, parts_since ends)
    saying_ends count is (Err (Refused (Why.Device s))) ends = inr (whole, parts_since ends)
    saying_ends count is (Err (Refused why)) ends = absurd ends
    saying_ends count is (Err (Found found)) ends = absurd ends

-- the survey is refused
pub refused_ends : (span : Span) (v : Volume) (a b : Moment) → b.said ≡ a.said → (why : Refusal) → IsFromOutside why → (let r : Result ℕ DumpFault = Err (told_as why) in EndsDump span v a b r)
refused_ends span v a b quiet (Why.Device s) outside = inl quiet
refused_ends span v a b quiet Why.Memory outside = inl quiet
refused_ends span v a b quiet why outside = absurd outside
