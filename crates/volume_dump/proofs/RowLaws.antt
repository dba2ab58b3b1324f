-- Versions that are said, one after another.
use Rattle.std.proofs.Common.{◌≡◌, ℕ, ◌+◌, ◌≤◌, Bool, false, List, [], ◌∷◌, ◌++◌, Option, Some, None, refl, sym, ap, ◌∙◌, append_assoc}
use Rattle.std.specs.Prelude.{Result, Err, ⊤}
use Rattle.std.proofs.lemmas.List.{append-nil}
use Rattle.fsd_bytes.specs.declared.key.Key.{Key}
use Rattle.fsd_bytes.specs.declared.refusal.Refusal.{Refusal}
use Rattle.fsd_bytes.specs.declared.refusal.Refusal.TheVariants as Why
use Rattle.fsd_formats.specs.declared.entry.Entry.{Entry}
use Rattle.fsd_log.specs.Scan.{Placed}
use Rattle.fsd_runs.specs.declared.span.Span.{Span}
use Rattle.sector_disk.specs.Machine.{Moment, Utters, Wears}
use Rattle.fsd_files.specs.Answers.{entry_after}
use Rattle.fsd_files.specs.Volume.{Volume}
use Rattle.fsd_files.specs.declared.reply.Reply.TheVariants.{Found as FoundOne}
use Rattle.fsd_sound.specs.Mounted.{Mounted}
use Rattle.volume_contract.specs.State.{Known, Stands, State, volume_of}
use Rattle.scrub.specs.Walk.{IsFromOutside}
use Rattle.scrub.proofs.WalkLaws.{walked_all, walked_at, walked_counted, walked_more, walked_none}
use Rattle.volume_dump.specs.declared.fault.DumpFault.{DumpFault}
use Rattle.volume_dump.specs.declared.fault.DumpFault.TheVariants.{Refused, Found, Cut, Output, Memory}
use Rattle.sector_disk.specs.declared.machine.Machine.{Ghosts}
use Rattle.scrub.specs.Reading.{ReadsVolume}
use Rattle.volume_dump.specs.Dump.{SaysSome}
use Rattle.volume_dump.specs.Saying.{EndsEntries, EndsEntry, HasSaid, IsEntered, LeavesSaying, SaysVolume, said_of}
use Rattle.volume_dump.specs.Told.{told_as}
use Rattle.volume_dump.proofs.EntryLaws.{entered}
use Rattle.volume_dump.proofs.SaidLaws.{volume_reads_says, volume_says_after}
use Rattle.volume_dump.proofs.TextLaws.{said_both, says_so, some_then, utters_as, utters_behind, utters_more, wears_some, wears_utters}

-- the text of all versions, for a volume that stands
abbrev pub all_said : Span → Known → List ℕ
all_said span k = said_of span (volume_of k).files (volume_of k).entries

pub said_none : (span : Span) (v : Volume) (now : Moment) → HasSaid span v 0 None now now
said_none span v now = record { front = []; walked = walked_none v.entries; said = sym (append-nil now.said) }

module _ {S : Type 0} (state : S → State) (has : S → Mounted → List Placed → Type 0) (v : S) (k : Known) (span : Span) (a b : Moment) (stands : Stands state has v k b)
    (some : SaysSome a b) (count : ℕ) (last : Option Key) (s : HasSaid span (volume_of k) count last a b) where
  -- some bytes more of the text
  more_uttered : (rest : List Entry) → (volume_of k).entries ≡ s.front ++ rest → (ys more : List ℕ) → said_of span (volume_of k).files rest ≡ ys ++ more → (left : Moment) → Utters ys b left → Utters (all_said span k) a left
  more_uttered rest at ys more is left u =
      let files = (volume_of k).files in
      let front = said_of span files s.front in
      utters_as (front ++ (ys ++ more)) (all_said span k) a left
      (sym (ap (said_of span files) at ∙ said_both span files s.front rest ∙ ap (λ (zs : List ℕ). front ++ zs) is))
      (utters_behind front (ys ++ more) a b left (says_so front a b some s.said) (utters_more ys more b left u))

  pub row_wears : (left : Moment) → Wears b left → Utters (all_said span k) a left
  row_wears left worn = more_uttered s.walked.rest s.walked.all [] (said_of span (volume_of k).files s.walked.rest) refl left (wears_utters [] b left worn)

  module _ (e : Entry) (looks : FoundOne (entry_after last (volume_of k).entries) ≡ FoundOne (Some e)) where
    pub row_entered : IsEntered e k
    row_entered = let at = walked_at state has v k b stands s.front count last s.walked e looks in entered state has v k b stands s.front e at.0 at.1

    pub row_utters : (mid left : Moment) → Wears b mid → Utters (said_of span (volume_of k).files (e ∷ [])) mid left → Utters (all_said span k) a left
    row_utters mid left worn u =
        let files = (volume_of k).files in
        let one = said_of span files (e ∷ []) in
        let at = walked_at state has v k b stands s.front count last s.walked e looks in
        more_uttered (e ∷ at.0) at.1 one (said_of span files at.0) (said_both span files (e ∷ []) at.0) left
        (utters_behind [] one b mid left (record { image = worn.image; windows = worn.windows; said = worn.said ∙ sym (append-nil b.said) }) u)

    pub row_more : (mid end : Moment) → mid.said ≡ b.said → end.said ≡ mid.said ++ said_of span (volume_of k).files (e ∷ []) → HasSaid span (volume_of k) (count + 1) (Some e.key) a end
    row_more mid end quiet said =
        let files = (volume_of k).files in
        let one = said_of span files (e ∷ []) in
        record {
          front = s.front ++ e ∷ [];
          walked = walked_more state has v k b stands s.front count last s.walked e looks;
          said = said
              ∙ ap (λ (zs : List ℕ). zs ++ one) (quiet ∙ s.said)
              ∙ append_assoc a.said (said_of span files s.front) one
              ∙ ap (λ (zs : List ℕ). a.said ++ zs) (sym (said_both span files s.front (e ∷ [])));
        }

    pub row_fails : (T : Type 0) (mid end : Moment) → mid.said ≡ b.said → (fault : DumpFault) → (let was : Result T DumpFault = Err fault in EndsEntry span (volume_of k) e mid end was) → (let r : Result T DumpFault = Err fault in EndsEntries span (volume_of k) a end r)
    row_fails T mid end quiet (Cut n) ends =
        let at = walked_at state has v k b stands s.front count last s.walked e looks in
        record { front = s.front; entry = e; rest = at.0; all = at.1; spoils = ends.0; said = ends.1 ∙ quiet ∙ s.said }
    row_fails T mid end quiet Output ends = tt
    row_fails T mid end quiet Memory ends = record { front = s.front; rest = s.walked.rest; all = s.walked.all; said = ends ∙ quiet ∙ s.said }
    row_fails T mid end quiet (Refused (Why.Device n)) ends = record { front = s.front; rest = s.walked.rest; all = s.walked.all; said = ends ∙ quiet ∙ s.said }
    row_fails T mid end quiet (Refused why) ends = absurd ends
    row_fails T mid end quiet (Found found) ends = absurd ends

  -- none is left
  pub row_all : (end : Moment) → FoundOne (entry_after last (volume_of k).entries) ≡ FoundOne None → end.said ≡ b.said → end.said ≡ a.said ++ all_said span k
  row_all end looks quiet = quiet ∙ s.said ∙ ap (λ (es : List Entry). a.said ++ said_of span (volume_of k).files es) (sym (walked_all state has v k b stands s.front count last s.walked looks))

  pub row_counted : (versions : ℕ) → versions ≡ (state v).versions → versions ≤ count → b.said ≡ a.said ++ all_said span k
  row_counted versions asked ended = s.said ∙ ap (λ (es : List Entry). a.said ++ said_of span (volume_of k).files es) (sym (walked_counted state has v k b stands s.front count last s.walked versions asked ended))

  -- a look-up has failed
  pub row_unmet : (T : Type 0) (end : Moment) → end.said ≡ b.said → (why : Refusal) → IsFromOutside why → (let r : Result T DumpFault = Err (told_as why) in EndsEntries span (volume_of k) a end r)
  row_unmet T end quiet (Why.Device n) outside = record { front = s.front; rest = s.walked.rest; all = s.walked.all; said = quiet ∙ s.said }
  row_unmet T end quiet Why.Memory outside = record { front = s.front; rest = s.walked.rest; all = s.walked.all; said = quiet ∙ s.said }
  row_unmet T end quiet why outside = absurd outside

-- ---- calls

module _ {D S : Type 0} {M : Ghosts D} {state : S → State} {has : S → Mounted → List Placed → Type 0} {v x y : S} {a b c : D} (span : Span) (count : ℕ) (last : Option Key)
    (was : SaysVolume M state has None false (LeavesSaying state has v (λ k. ⊤) (all_said span)) v x a b)
    (said : M.honest b → (k : Known) → Stands state has v k (M.now a) → HasSaid span (volume_of k) count last (M.now a) (M.now b)) where
  -- a look-up behind the versions that are said
  pub row_reads : {fault : Option ℕ} → ReadsVolume M state has fault x y b c → SaysVolume M state has fault false (LeavesSaying state has v (λ k. ⊤) (all_said span)) v y a c
  row_reads next = volume_says_after was (volume_reads_says next) (λ h left so. so)
      (λ h left worn.
      let back = next.disk.trust.honest h in
      let some = (was.disk.exit back).0 in (
        some_then (M.now a) (M.now b) left some (wears_some (M.now b) left worn),
        λ k stands is. row_wears state has x k span (M.now a) (M.now b) (was.stands back k stands) some count last (said back k stands) left worn,
      ))

  -- and the version that it finds
  pub row_says : {z : S} {d : D} {fault : Option ℕ} {unsaid : Bool} (e : Entry) → ReadsVolume M state has None x y b c → (M.honest c → (k : Known) → Stands state has v k (M.now a) → FoundOne (entry_after last (volume_of k).entries) ≡ FoundOne (Some e))
      → SaysVolume M state has fault unsaid (LeavesSaying state has y (IsEntered e) (λ k. said_of span (volume_of k).files (e ∷ []))) y z c d → SaysVolume M state has fault unsaid (LeavesSaying state has v (λ k. ⊤) (all_said span)) v z a d
  row_says e next looks call = volume_says_after (row_reads next) call (λ h left so. so)
      (λ h left leaves.
      let there = call.disk.trust.honest h in
      let back = next.disk.trust.honest there in
      let some = (was.disk.exit back).0 in (
        some_then (M.now a) (M.now c) left (some_then (M.now a) (M.now b) (M.now c) some (wears_some (M.now b) (M.now c) (next.disk.worn there))) leaves.0,
        λ k stands is.
            let here = was.stands back k stands in
            let found = looks there k stands in
            let row = said back k stands in
            row_utters state has x k span (M.now a) (M.now b) here some count last row e found (M.now c) left (next.disk.worn there)
            (leaves.1 k (next.stands there k here) (row_entered state has x k span (M.now a) (M.now b) here some count last row e found)),
      ))
