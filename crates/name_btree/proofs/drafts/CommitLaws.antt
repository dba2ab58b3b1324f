-- What a step knows once a draft is written.
use Rattle.std.proofs.Common.{◌≡◌, ℕ, zero, suc, ◌+◌, ◌≤◌, Bool, true, false, List, [], ◌∷◌, length, get_or, None, refl, ap, ◌∙◌, arith}
use Rattle.std.specs.Prelude.{slice_set}
use Rattle.name_page.specs.Pages.{Step, reaches, changes, is_spare, with_page, with_spare}
use Rattle.name_btree.specs.declared.draft.Sheet.{Sheet}
use Rattle.name_page.specs.declared.pages.Pages.{Ghosts}
use Rattle.name_page.specs.Looks.{OnlyEdits}
use Rattle.name_btree.specs.Draft.{committed, freed, drafted}
use Rattle.name_btree.proofs.drafts.DraftLaws.{committed_count, drafted_length}

-- ---- what is written

-- what the writes leave as it was
record Leaves (old new : Step) : Type 0 where
  most_reached : new.most_reached ≡ old.most_reached
  most_changed : new.most_changed ≡ old.most_changed
  home_a : new.home_a ≡ old.home_a
  reached : new.reached ≡ old.reached

committed_leaves : (sheets : List Sheet) (step : Step) → Leaves step (committed sheets step)
committed_leaves [] step = record { most_reached = refl; most_changed = refl; home_a = refl; reached = refl }
committed_leaves (s ∷ sheets) step =
    let rest = committed_leaves sheets (with_page s.page s.image step) in
    record { most_reached = rest.most_reached; most_changed = rest.most_changed; home_a = rest.home_a; reached = rest.reached }

-- ---- what is made spare

freed_leaves : (pages : List ℕ) (step : Step) → Leaves step (freed pages step)
freed_leaves [] step = record { most_reached = refl; most_changed = refl; home_a = refl; reached = refl }
freed_leaves (p ∷ pages) step =
    let rest = freed_leaves pages (with_spare p step) in
    record { most_reached = rest.most_reached; most_changed = rest.most_changed; home_a = rest.home_a; reached = rest.reached }

pub freed_changed : (pages : List ℕ) (step : Step) → (freed pages step).changed ≡ step.changed
freed_changed [] step = refl
freed_changed (p ∷ pages) step = freed_changed pages (with_spare p step)

more_spare : (spares : List Bool) (page q : ℕ) → get_or spares q false ≡ true → get_or (slice_set spares page true) q false ≡ true
more_spare [] page q h = h
more_spare (x ∷ spares) zero zero h = refl
more_spare (x ∷ spares) zero (suc q) h = h
more_spare (x ∷ spares) (suc page) zero h = h
more_spare (x ∷ spares) (suc page) (suc q) h = more_spare spares page q h

pub freed_spare : (pages : List ℕ) (step : Step) (q : ℕ) → is_spare step.spares q ≡ true → is_spare (freed pages step).spares q ≡ true
freed_spare [] step q h = h
freed_spare (p ∷ pages) step q h = freed_spare pages (with_spare p step) q (more_spare step.spares p q h)

-- ---- both

pub commit_most_reached : (pages : List ℕ) (sheets : List Sheet) (step : Step) → (freed pages (committed sheets step)).most_reached ≡ step.most_reached
commit_most_reached pages sheets step = (freed_leaves pages (committed sheets step)).most_reached ∙ (committed_leaves sheets step).most_reached

pub commit_most_changed : (pages : List ℕ) (sheets : List Sheet) (step : Step) → (freed pages (committed sheets step)).most_changed ≡ step.most_changed
commit_most_changed pages sheets step = (freed_leaves pages (committed sheets step)).most_changed ∙ (committed_leaves sheets step).most_changed

pub commit_home : (pages : List ℕ) (sheets : List Sheet) (step : Step) → (freed pages (committed sheets step)).home_a ≡ step.home_a
commit_home pages sheets step = (freed_leaves pages (committed sheets step)).home_a ∙ (committed_leaves sheets step).home_a

-- a draft that is written
pub commit_edits : {D : Type 0} (P : Ghosts D) (a b : D) (pages : List ℕ) (sheets : List Sheet) → P.outside None a b → (P.trusted b → P.trusted a) → P.step b ≡ freed pages (committed sheets (P.step a)) → (P.step b).images ≡ drafted sheets (P.step a).images → OnlyEdits P None a b
commit_edits P a b pages sheets outside trust is images = record {
  count = ap length images ∙ drafted_length sheets (P.step a).images;
  home_a = ap (λ (s : Step). s.home_a) is ∙ commit_home pages sheets (P.step a);
  most_reached = ap (λ (s : Step). s.most_reached) is ∙ commit_most_reached pages sheets (P.step a);
  most_changed = ap (λ (s : Step). s.most_changed) is ∙ commit_most_changed pages sheets (P.step a);
  outside = outside;
  trust = trust;
}

pub commit_reaches : (pages : List ℕ) (sheets : List Sheet) (step : Step) → reaches (freed pages (committed sheets step)) ≡ reaches step
commit_reaches pages sheets step =
    let most = commit_most_reached pages sheets step in
    let reached : (freed pages (committed sheets step)).reached ≡ step.reached = (freed_leaves pages (committed sheets step)).reached ∙ (committed_leaves sheets step).reached in
    omega (arith, most, ap length reached)

pub commit_changes : (pages : List ℕ) (sheets : List Sheet) (step : Step) → changes step ≤ changes (freed pages (committed sheets step)) + length sheets
commit_changes pages sheets step =
    omega (arith, commit_most_changed pages sheets step, ap length (freed_changed pages (committed sheets step)), committed_count sheets step)
