-- What the pages that are changed have, once a page or a draft is written.
use Rattle.std.proofs.Common.{◌≡◌, ◌⊎◌, inl, inr, ℕ, ◌<◌, Bool, true, false, List, [], ◌∷◌, length, Option, None, refl, sym, ap, subst, ◌∙◌, arith, length-set}
use Rattle.std.specs.Prelude.{IsSome, slice_get, slice_set, ◌==◌}
use Rattle.std.specs.List.{AllByRecursion}
use Rattle.std.proofs.lemmas.Bool.{eqb-true, eqb-false}
use Rattle.fsd_formats.specs.NamePage.{Content, read_page}
use Rattle.fsd_table.specs.Pages.{page_at}
use Rattle.name_page.specs.declared.pages.Pages.{Ghosts}
use Rattle.name_page.specs.Looks.{ChangesPages, IsAccepted, IsAsChanged, OnlyEdits, OnlyReaches}
use Rattle.name_page.specs.Pages.{Step, is_one_of, is_spare, with_one, with_page}
use Rattle.name_page.proofs.LookLaws.{edits_then, pages_same, pages_then, reaches_edits, Joins, Trusts}
use Rattle.name_btree.specs.declared.draft.Sheet.{Sheet}
use Rattle.name_btree.specs.Draft.{AreSheets, committed, freed}
use Rattle.name_btree.specs.Replace.{IsWritten, WritesPage}
use Rattle.name_btree.proofs.drafts.CommitLaws.{freed_changed}
use Rattle.name_btree.proofs.drafts.DraftLaws.{committed_images, drafted_length, freed_images}
use Rattle.name_btree.proofs.drafts.SetLaws.{set_at, set_other}
use Rattle.name_btree.proofs.drafts.TakeLaws.{one_changed, only_one}

-- ---- one page

set_pages : (s : Step) (page : ℕ) (bytes : List ℕ) → page < length s.images → IsSome (page_at (slice_set s.images page bytes) page) → ChangesPages s (with_page page bytes s)
set_pages s page bytes lt accepted = record { each = λ q is. by q (page == q) refl is }
  where
    read : (q : ℕ) → page ≡ q → IsSome (page_at (slice_set s.images page bytes) q)
    read q same = subst (λ (n : ℕ). IsSome (page_at (slice_set s.images page bytes) n)) same accepted

    by : (q : ℕ) (b : Bool) → (page == q) ≡ b → is_one_of (with_one s.changed page) q ≡ true → IsAsChanged s (with_page page bytes s) q ⊎ IsAccepted (with_page page bytes s) q
    by q true e is = let same = eqb-true page q e in inr (record { there = omega (arith, lt, same, length-set s.images page bytes); accepted = read q same })
    by q false e is = elim (one_changed s.changed page q is) [
      | inl was ↦ inl (record { was = was; same = set_other s.images page q bytes (λ same. eqb-false page q e (sym same)) })
      | inr this ↦ absurd (eqb-false page q e (only_one page q this))
    ]

-- a page that has content now
pub written_pages : (old new : Step) (page : ℕ) (x : Content) → IsWritten old new page x → page < length old.images → ChangesPages old new
written_pages old new page x is lt =
    let images : new.images ≡ slice_set old.images page is.bytes = ap (λ (s : Step). s.images) is.step in
    subst (ChangesPages old) (sym is.step) (set_pages old page is.bytes lt (subst (λ (o : Option Content). IsSome o) (sym (ap (λ (pages : List (List ℕ)). page_at pages page) (sym images) ∙ is.content)) refl))

pub written_count : (old new : Step) (page : ℕ) (x : Content) → IsWritten old new page x → length new.images ≡ length old.images
written_count old new page x is = ap (λ (s : Step). length s.images) is.step ∙ length-set old.images page is.bytes

-- behind a look that has reached it
pub written_edits : {D : Type 0} (G : Ghosts D) (law : Joins G) (trust : Trusts G) (old mid new : D) (page : ℕ) (x : Content) → OnlyReaches G None old mid → G.outside None mid new → IsWritten (G.step mid) (G.step new) page x → OnlyEdits G None old new
written_edits G law trust old mid new page x looks outside is = edits_then G law old mid new (reaches_edits G old mid looks)
    (record {
      count = written_count (G.step mid) (G.step new) page x is;
      home_a = ap (λ (s : Step). s.home_a) is.step;
      most_reached = ap (λ (s : Step). s.most_reached) is.step;
      most_changed = ap (λ (s : Step). s.most_changed) is.step;
      outside = outside;
      trust = trust mid new None outside;
    })

pub written_one : {D : Type 0} (G : Ghosts D) (trust : Trusts G) (old mid new : D) (page : ℕ) (x : Content) → OnlyReaches G None old mid → G.outside None mid new → IsWritten (G.step mid) (G.step new) page x
    → page < length (G.step mid).images → is_spare (G.step old).spares page ≡ false → WritesPage G old new
written_one G trust old mid new page x looks outside is low used = record {
  page = page;
  bytes = is.bytes;
  there = omega (arith, low, looks.looks.count);
  used = used;
  spares = ap (λ (s : Step). s.spares) is.step ∙ looks.looks.spares;
  changed = ap (λ (s : Step). s.changed) is.step ∙ ap (λ (pages : List ℕ). with_one pages page) looks.looks.changed;
  images = λ t. ap (λ (s : Step). s.images) is.step ∙ ap (λ (pages : List (List ℕ)). slice_set pages page is.bytes) (looks.stays (trust mid new None outside t));
}

-- ---- a draft

committed_size : (sheets : List Sheet) (s : Step) → length (committed sheets s).images ≡ length s.images
committed_size sheets s = ap (λ (images : List (List ℕ)). length images) (committed_images sheets s) ∙ drafted_length sheets s.images

committed_pages : (sheets : List Sheet) (s : Step) → AllByRecursion (λ x. (x.page < length s.images) × IsSome (read_page x.page (length s.images) x.image)) sheets → ChangesPages s (committed sheets s)
committed_pages [] s all = pages_same s s refl refl (λ page lt is. refl)
committed_pages (x ∷ sheets) s all =
    let next : Step = with_page x.page x.image s in
    let count : length next.images ≡ length s.images = length-set s.images x.page x.image in
    let one : ChangesPages s next = set_pages s x.page x.image all.0.0 (subst (λ (o : Option Content). IsSome o) (sym (set_at s.images x.page x.image all.0.0)) all.0.1) in
    pages_then s next (committed sheets next) (committed_size sheets next) one
    (committed_pages sheets next (subst (λ (n : ℕ). AllByRecursion (λ (y : Sheet). (y.page < n) × IsSome (read_page y.page n y.image)) sheets) (sym count) all.1))

accepted_sheets : (s : Step) (sheets : List Sheet) → AreSheets s sheets → AllByRecursion (λ (x : Sheet). (x.page < length s.images) × IsSome (read_page x.page (length s.images) x.image)) sheets
accepted_sheets s [] all = tt
accepted_sheets s (x ∷ sheets) all = ((all.0.reached.0, all.0.accepted), accepted_sheets s sheets all.1)

pub commit_pages : (pages : List ℕ) (sheets : List Sheet) (s t : Step) → AreSheets s sheets → t ≡ freed pages (committed sheets s) → ChangesPages s t
commit_pages pages sheets s t all is =
    let done : Step = committed sheets s in
    subst (ChangesPages s) (sym is)
    (pages_then s done (freed pages done) (ap (λ (images : List (List ℕ)). length images) (freed_images pages done)) (committed_pages sheets s (accepted_sheets s sheets all))
    (pages_same done (freed pages done) (ap (λ (images : List (List ℕ)). length images) (freed_images pages done)) (freed_changed pages done) (λ page lt is. ap (λ (images : List (List ℕ)). slice_get images page) (freed_images pages done))))
