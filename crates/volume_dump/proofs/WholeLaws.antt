-- A whole dump that is said: its head, its versions and its end.
use Rattle.std.proofs.Common.{◌≡◌, ℕ, Bool, false, List, ◌++◌, Option, None}
use Rattle.std.specs.Prelude.{⊤}
use Rattle.std.specs.List.{concat}
use Rattle.sector_disk.specs.declared.machine.Machine.{Ghosts}
use Rattle.sector_disk.specs.Machine.{Moment, Says, Utters}
use Rattle.fsd_log.specs.Scan.{Placed}
use Rattle.fsd_sound.specs.Mounted.{Mounted}
use Rattle.fsd_runs.specs.declared.span.Span.{Span}
use Rattle.fsd_runs.specs.Dumps.{dump_of}
use Rattle.volume_contract.specs.State.{Known, Stands, State, volume_of}
use Rattle.volume_dump.specs.declared.survey.Tally.{Tally}
use Rattle.volume_dump.specs.Saying.{IsHeaded, LeavesSaying, SaysVolume}
use Rattle.volume_dump.proofs.DumpLaws.{end_text, end_uttered, head_text, head_uttered, versions_uttered}
use Rattle.volume_dump.proofs.RowLaws.{all_said}
use Rattle.volume_dump.proofs.SaidLaws.{volume_says_after, volume_says_more}
use Rattle.volume_dump.proofs.TextLaws.{says_so, some_then, utters_some}

-- what a stop leaves
abbrev pub LeavesAll : {S : Type 0} → (state : S → State) → (has : S → Mounted → List Placed → Type 0) → S → Span → Tally → Moment → Moment → Type 0
LeavesAll state has v span t = LeavesSaying state has v (IsHeaded span t) (λ k. concat (dump_of span (volume_of k)))

head_leaves : {S : Type 0} (state : S → State) (has : S → Mounted → List Placed → Type 0) (v : S) (span : Span) (t : Tally) (a left : Moment) → Utters (head_text t) a left → LeavesAll state has v span t a left
head_leaves state has v span t a left u = (utters_some (head_text t) a left u, λ k stands is. head_uttered span (volume_of k) t is.count is.latest a left u)

module _ {D S : Type 0} {M : Ghosts D} {state : S → State} {has : S → Mounted → List Placed → Type 0} {v : S} {a b : D} (span : Span) (t : Tally) where
  -- the head alone
  pub head_says : {unsaid : Bool} → SaysVolume M state has None unsaid (Utters (head_text t)) v v a b → SaysVolume M state has None unsaid (LeavesAll state has v span t) v v a b
  head_says head = volume_says_more head (λ h left u. head_leaves state has v span t (M.now a) left u)

  module _ (head : SaysVolume M state has None false (Utters (head_text t)) v v a b) (head_said : M.honest b → Says (head_text t) (M.now a) (M.now b)) where
    -- and the versions
    pub versions_say : {y : S} {c : D} {fault : Option ℕ} {unsaid : Bool} → SaysVolume M state has fault unsaid (LeavesSaying state has v (λ k. ⊤) (all_said span)) v y b c → SaysVolume M state has fault unsaid (LeavesAll state has v span t) v y a c
    versions_say versions = volume_says_after head versions (λ h left u. head_leaves state has v span t (M.now a) left u)
        (λ h left leaves.
        let back = versions.disk.trust.honest h in (
          some_then (M.now a) (M.now b) left (utters_some (head_text t) (M.now a) (M.now b) (head.disk.exit back)) leaves.0,
          λ k stands is. versions_uttered span (volume_of k) t is.count is.latest (M.now a) (M.now b) (head_said back) left (leaves.1 k (head.stands back k stands) tt),
        ))

    -- and the end
    pub end_says : {y : S} {c d : D} {unsaid : Bool} → SaysVolume M state has None false (LeavesSaying state has v (λ k. ⊤) (all_said span)) v y b c
        → (M.honest c → (k : Known) → Stands state has v k (M.now b) → (M.now c).said ≡ (M.now b).said ++ all_said span k)
        → SaysVolume M state has None unsaid (Utters (end_text t)) y y c d → SaysVolume M state has None unsaid (LeavesAll state has v span t) v y a d
    end_says {c = c} versions said end = volume_says_after (versions_say versions) end (λ h left so. so)
        (λ h left u.
        let there = end.disk.trust.honest h in
        let back = versions.disk.trust.honest there in
        let some = (versions.disk.exit there).0 in (
          some_then (M.now a) (M.now c) left (some_then (M.now a) (M.now b) (M.now c) (utters_some (head_text t) (M.now a) (M.now b) (head.disk.exit back)) some) (utters_some (end_text t) (M.now c) left u),
          λ k stands is.
              end_uttered span (volume_of k) t is.count is.latest (M.now a) (M.now b) (head_said back) (M.now c)
              (says_so (all_said span k) (M.now b) (M.now c) some (said there k (head.stands back k stands))) left u,
        ))
