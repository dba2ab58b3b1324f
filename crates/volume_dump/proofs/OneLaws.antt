-- One version that is read and said.
use Rattle.std.proofs.Common.{◌≡◌, ℕ, Bool, true, false, List, [], ◌∷◌, ◌++◌, map, Option, None, refl, sym, ap, ◌∙◌, subst}
use Rattle.std.specs.Prelude.{IfErr, OnOk, Result, Ok, Err, if◌then◌else◌}
use Rattle.std.specs.List.{concat}
use Rattle.std.proofs.lemmas.List.{append-nil}
use Rattle.fsd_bytes.specs.declared.refusal.Refusal.TheVariants as Why
use Rattle.fsd_dumps.specs.Dump.{item_bytes}
use Rattle.fsd_formats.specs.declared.entry.Entry.{Entry}
use Rattle.sector_disk.specs.declared.machine.Machine.{Ghosts}
use Rattle.sector_disk.specs.Machine.{Moment, Says, Wears}
use Rattle.fsd_log.specs.Scan.{Placed}
use Rattle.fsd_files.specs.Files.{Files}
use Rattle.fsd_files.specs.Volume.{Volume}
use Rattle.fsd_sound.specs.Mounted.{Mounted}
use Rattle.fsd_runs.specs.declared.span.Span.{Span}
use Rattle.fsd_runs.specs.Dumps.{dumped_of, is_in_span}
use Rattle.volume_contract.specs.State.{Known, State}
use Rattle.volume_dump.specs.declared.fault.DumpFault.{DumpFault}
use Rattle.volume_dump.specs.declared.fault.DumpFault.TheVariants.{Refused, Found, Cut, Output, Memory}
use Rattle.volume_dump.specs.Dump.{device_in_dump}
use Rattle.volume_dump.specs.Saying.{EndsEntry, IsUnread, LeavesSaying, SaysVolume, said_of, with_bytes}
use Rattle.volume_dump.proofs.TextLaws.{wears_some, wears_utters}

-- a fault of the output alone tells no place of the disk
pub output_device : {T : Type 0} (r : Result T DumpFault) → IfErr r (λ fault. fault ≡ Output) → device_in_dump r ≡ None
output_device (Ok x) is = refl
output_device {T = T} (Err fault) is = ap (λ (x : DumpFault). device_in_dump {T = T} (Err x)) is

pub volume_told : {D S : Type 0} {M : Ghosts D} {state : S → State} {has : S → Mounted → List Placed → Type 0} {R : Moment → Moment → Type 0} {v x : S} {a b : D} {was is : Option ℕ} {unsaid told : Bool}
    → is ≡ was → told ≡ unsaid → SaysVolume M state has was unsaid R v x a b → SaysVolume M state has is told R v x a b
volume_told {M = M} {state = state} {has = has} {R = R} {v = v} {x = x} {a = a} {b = b} {is = is} {unsaid = unsaid} same quiet s =
    subst (λ (u : Bool). SaysVolume M state has is u R v x a b) (sym quiet) (subst (λ (fault : Option ℕ). SaysVolume M state has fault unsaid R v x a b) (sym same) s)

-- nothing is said yet
pub wears_leaves : {S : Type 0} (state : S → State) (has : S → Mounted → List Placed → Type 0) (v : S) (Is : Known → Type 0) (text : Known → List ℕ) (a left : Moment) → Wears a left → LeavesSaying state has v Is text a left
wears_leaves state has v Is text a left worn = (wears_some a left worn, λ k stands is. wears_utters (text k) a left worn)

-- ---- the one that is chosen

one_said : (files : Files) (e : Entry) (is : Bool) → is ≡ true → concat (map item_bytes (map (dumped_of files) (if is then e ∷ [] else []))) ≡ item_bytes (dumped_of files e)
one_said files e true here = append-nil (item_bytes (dumped_of files e))
one_said files e false here = absurd (cc here)

pub said_one : (span : Span) (files : Files) (e : Entry) (bytes : List ℕ) → is_in_span span e.serial ≡ true → bytes ≡ (dumped_of files e).bytes → item_bytes (with_bytes e bytes) ≡ said_of span files (e ∷ [])
said_one span files e bytes is same = ap (λ (xs : List ℕ). item_bytes (with_bytes e xs)) same ∙ sym (one_said files e (is_in_span span e.serial) is)

-- it can't be read
pub unread_ends : (T : Type 0) (span : Span) (v : Volume) (e : Entry) (a b : Moment) (fault : DumpFault) → is_in_span span e.serial ≡ true → Wears a b → IsUnread e b.image fault → EndsEntry {T = T} span v e a b (Err fault)
unread_ends T span v e a b (Cut s) is worn unread = (record { chosen_is = is; own = unread.0; damaged = unread.1 }, worn.said)
unread_ends T span v e a b Memory is worn unread = worn.said
unread_ends T span v e a b (Refused (Why.Device s)) is worn unread = worn.said
unread_ends T span v e a b (Refused why) is worn unread = absurd unread
unread_ends T span v e a b (Found found) is worn unread = absurd unread
unread_ends T span v e a b Output is worn unread = absurd unread

-- it is read, and said or not
pub said_ends : (span : Span) (v : Volume) (e : Entry) (a mid b : Moment) (text : List ℕ) → Wears a mid → text ≡ said_of span v.files (e ∷ []) → (r : Result (Unit {0}) DumpFault) → IfErr r (λ fault. fault ≡ Output)
    → OnOk r (Says text mid b) → EndsEntry span v e a b r
said_ends span v e a mid b text worn same (Ok x) is says = says.said ∙ ap (λ (xs : List ℕ). mid.said ++ xs) same ∙ ap (λ (xs : List ℕ). xs ++ said_of span v.files (e ∷ [])) worn.said
said_ends span v e a mid b text worn same (Err fault) is says = subst (λ (x : DumpFault). EndsEntry {T = Unit {0}} span v e a b (Err x)) (sym is) tt
