-- A mounted volume without its unfinished creations, and with them again where sectors of theirs are written.
use Rattle.std.proofs.Common.{◌≡◌, ℕ, Bool, true, false, not, ◌&&◌, ◌||◌, List, [], ◌++◌, map, refl, sym, ap, subst, ◌∙◌, arith}
use Rattle.std.proofs.Math.Bool.{or-true, or-false}
use Rattle.std.specs.List.{flat_map}
use Rattle.std.proofs.lemmas.Bool.{false_from_ne_true, or_from, or_parts}
use Rattle.run_table.specs.declared.run.Run.{Run}
use Rattle.run_table.specs.RunTable.{sectors_of}
use Rattle.run_table.specs.Space.{contains}
use Rattle.volume_layout.specs.Layout.{is_data}
use Rattle.sector_disk.specs.declared.sector.WeakRun.{WeakRun}
use Rattle.fsd_files.specs.Disk.{Image, Sectors, in_runs}
use Rattle.fsd_files.specs.Files.{Change}
use Rattle.fsd_files.specs.Volume.{Volume, in_version, is_free, is_in, plans_of}
use Rattle.fsd_files.specs.Waiting.{IsSpaced, is_kept_alone, is_let_go}
use Rattle.fsd_files.proofs.ChangeLaws.{used-append}
use Rattle.fsd_files.proofs.CountLaws.{contains_occurs, used}
use Rattle.fsd_sound.specs.Mounted.{IsMounted, Mounted}
use Rattle.volume_contract.specs.State.{OpenParts, StandWritten, WrittenDraft, readings}
use Rattle.volume_laws.proofs.OpenedLaws.{apart_used, reopen, reopened, used_apart}

-- ---- without its creations

abbrev pub no_drafts : OpenParts → OpenParts
no_drafts o = record o { drafts = [] }

-- what is written of creations stands
abbrev pub AreWritten : Sectors → Image → List WrittenDraft → Type 0
AreWritten hurt i drafts = StandWritten hurt i (map (λ x. x.slices) drafts) (map (λ x. x.runs) drafts)

module _ (m : Mounted) (o : OpenParts) (windows : List WeakRun) (h : List Change) (f : ℕ) (i : Image) (is : IsMounted (reopen m o) windows h f i) where
  abbrev was : Volume
  was = (reopen m o).volume

  abbrev left : Volume
  left = (reopen m (no_drafts o)).volume

  abbrev versions : List (List Run)
  versions = plans_of m.volume.entries

  -- a creation's sector is in no version, did not go, and no reader holds it; it lies in the data area
  draft_parts : (s : ℕ) → is_in was.drafts s ≡ true → (is_data m.volume.layout s ≡ true) × (in_version m.volume s ≡ false) × (contains m.volume.removed s ≡ false) × (is_in was.held s ≡ false)
  draft_parts s now =
      let all = used_apart m.volume.layout (versions ++ was.drafts) is.spaced.apart s in
      let some = contains_occurs s (flat_map sectors_of was.drafts) now in
      let a = used-append s versions was.drafts in
      let none = or_parts (contains m.volume.removed s) (is_in was.held s) (is.spaced.drafts s now) in (
        all.1 (omega (arith, some, a)),
        false_from_ne_true (in_version m.volume s) (λ version. let more = contains_occurs s (flat_map sectors_of versions) version in absurd (omega (arith, all.0, some, a, more))),
        none.0,
        none.1,
      )

  spaced_cleared : IsSpaced left
  spaced_cleared = record {
    apart = apart_used m.volume.layout (versions ++ []) (λ s.
        let all = used_apart m.volume.layout (versions ++ was.drafts) is.spaced.apart s in
        let none : used s [] ≡ 0 = refl in
        let a = used-append s versions was.drafts in
        let b = used-append s versions [] in
        (omega (arith, all.0, a, b, none), λ some. all.1 (omega (arith, a, b, none, some))));
    area = is.spaced.area;
    drafts = λ s none. absurd (cc none);
    removed = is.spaced.removed;
    held = is.spaced.held;
  }

  -- their sectors are free then
  pub free_cleared : (s : ℕ) → is_free left s ≡ (is_free was s || is_in was.drafts s)
  free_cleared s = tests (is_data m.volume.layout s) (in_version m.volume s) (contains m.volume.removed s) (is_in was.held s) (is_in was.drafts s) (draft_parts s)
    where
      tests : (a b r c d : Bool) → (d ≡ true → (a ≡ true) × (b ≡ false) × (r ≡ false) × (c ≡ false)) → (a && not b && not (not b && (r || c || false))) ≡ ((a && not b && not (not b && (r || c || d))) || d)
      tests a b r c true so =
          let p = so refl in
          (λ i. p.0 i && not (p.1 i) && not (not (p.1 i) && (p.2 i || p.3 i || false))) ∙ sym (or-true (a && not b && not (not b && (r || c || true))))
      tests a b r c false so = sym (or-false (a && not b && not (not b && (r || c || false))))

  pub mounted_cleared : IsMounted (reopen m (no_drafts o)) windows h f i
  mounted_cleared = reopened m o (no_drafts o) windows h f i is spaced_cleared (record { drafts = tt; held = is.open_ones.held }) (λ s out.
      let parts = or_parts (is_free was s || is_in was.drafts s) (is_kept_alone was s) out in
      or_from (is_free left s || is_in left.drafts s) (is_kept_alone left s) (or_from (is_free left s) (is_in left.drafts s) (free_cleared s ∙ parts.0) refl) parts.1)

  -- with the same creations again it is mounted on another disk, where what is written of them stands
  module _ (drafts : List WrittenDraft) (same : map (λ x. x.runs) drafts ≡ map (λ x. x.runs) o.drafts) (j : Image) (now : IsMounted (reopen m (no_drafts o)) windows h f j) (written : AreWritten (in_runs windows) j drafts) where
    pub same_volume : was ≡ (reopen m (record o { drafts = drafts })).volume
    same_volume = λ i. record m.volume { drafts = sym same i; held = map (λ x. x.runs) (readings o.readers) }

    pub mounted_again : IsMounted (reopen m (record o { drafts = drafts })) windows h f j
    mounted_again =
        reopened m (no_drafts o) (record o { drafts = drafts }) windows h f j now (subst IsSpaced same_volume is.spaced)
        (record { drafts = written; held = now.open_ones.held })
        (λ s out.
        let parts = or_parts (is_free left s || is_in left.drafts s) (is_kept_alone left s) out in
        let free = or_parts (is_free was s) (is_in was.drafts s) (sym (free_cleared s) ∙ (or_parts (is_free left s) (is_in left.drafts s) parts.0).0) in
        ap (λ (w : Volume). is_let_go w s) (sym same_volume)
        ∙ or_from (is_free was s || is_in was.drafts s) (is_kept_alone was s) (or_from (is_free was s) (is_in was.drafts s) free.0 free.1) parts.1)
