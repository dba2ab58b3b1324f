-- Calls that only reach pages, one after another, and what the pages show.
use Rattle.std.proofs.Common.{◌≡◌, ◌⊎◌, inl, inr, ℕ, ◌<◌, Bool, true, false, List, length, Option, None, refl, sym, ap, subst, ◌∙◌, arith}
use Rattle.std.specs.Prelude.{IsSome, slice_get, option_and_then}
use Rattle.std.proofs.lemmas.Bool.{cases_lt, or_right}
use Rattle.std.proofs.lemmas.Option.{slice_get_past}
use Rattle.fsd_bytes.specs.declared.refusal.Refusal.{Refusal}
use Rattle.fsd_formats.specs.NamePage.{read_page}
use Rattle.fsd_table.specs.Pages.{page_at}
use Rattle.name_page.specs.declared.pages.Pages.{Ghosts}
use Rattle.name_page.specs.Pages.{Step, is_one_of, is_spare, IsReached, Keeps, NeedsNoMemory, with_images, with_promise, rested}
use Rattle.name_page.specs.Looks.{HasAllIn, Looks, NeedsNoMore, OnlyReaches, OnlyWalks, OnlyEdits, OnlyTakes, Agrees, ChangesPages, ShowsEach, IsAsChanged}

-- what happens outside happens in all, and what is trusted then was before
module _ {D : Type 0} (P : Ghosts D) where
  abbrev pub Joins : Type 0
  Joins = (a b c : D) (refusal : Option Refusal) → P.outside None a b → P.outside refusal b c → P.outside refusal a c

  abbrev pub Trusts : Type 0
  Trusts = (a b : D) (refusal : Option Refusal) → P.outside refusal a b → P.trusted b → P.trusted a

pub looks_then : (a b c : Step) → Looks a b → Looks b c → Looks a c
looks_then a b c x y = record {
  count = y.count ∙ x.count;
  images = λ page is. y.images page (x.reached page is) ∙ x.images page is;
  reached = λ page is. y.reached page (x.reached page is);
  spares = y.spares ∙ x.spares;
  home_a = y.home_a ∙ x.home_a;
  changed = y.changed ∙ x.changed;
  promised = y.promised ∙ x.promised;
  most_reached = y.most_reached ∙ x.most_reached;
  most_changed = y.most_changed ∙ x.most_changed;
}

pub looks_still : (a : Step) → Looks a a
looks_still a = record { count = refl; images = λ page is. refl; reached = λ page is. is; spares = refl; home_a = refl; changed = refl; promised = refl; most_reached = refl; most_changed = refl }

-- ---- no memory is wanting

module _ {D : Type 0} (P : Ghosts D) where
  pub memory_still : (a : D) → NeedsNoMemory P.step P.in_memory None a a
  memory_still a = record { images = refl; spares = refl; stays = λ page there. there; enough = λ is. cc is }

  pub memory_then : {refusal : Option Refusal} (a b c : D) → NeedsNoMemory P.step P.in_memory None a b → NeedsNoMemory P.step P.in_memory refusal b c → NeedsNoMemory P.step P.in_memory refusal a c
  memory_then a b c x y = record { images = y.images ∙ x.images; spares = y.spares ∙ x.spares; stays = λ page there. y.stays page (x.stays page there); enough = y.enough }

  pub all_stay : (a b : D) → NeedsNoMemory P.step P.in_memory None a b → HasAllIn P a → HasAllIn P b
  all_stay a b x all = record { each = λ page lt used. x.stays page (all.each page (subst (λ (pages : List (List ℕ)). page < length pages) x.images lt) (ap (λ (s : List Bool). is_spare s page) (sym x.spares) ∙ used)) }

  pub no_more_still : (a : D) → NeedsNoMore P None a a
  no_more_still a all = memory_still a

  pub no_more_then : {refusal : Option Refusal} (a b c : D) → NeedsNoMore P None a b → NeedsNoMore P refusal b c → NeedsNoMore P refusal a c
  no_more_then a b c x y all = memory_then a b c (x all) (y (all_stay a b (x all) all))

  -- nor where a step begins
  pub no_more_rested : {refusal : Option Refusal} (a b c : D) → NeedsNoMemory P.step P.in_memory None a b → NeedsNoMore P refusal b c → NeedsNoMore P refusal a c
  no_more_rested a b c rests y = no_more_then a b c (λ all. rests) y

  -- a page that is reached is spare, or in memory
  pub no_more_reached : {refusal : Option Refusal} (a b : D) (page : ℕ) → page < length (P.step a).images
      → ((is_spare (P.step a).spares page ≡ true) ⊎ P.in_memory a page → NeedsNoMemory P.step P.in_memory refusal a b) → NeedsNoMore P refusal a b
  no_more_reached a b page within needs all = needs (by (is_spare (P.step a).spares page) refl)
    where
      by : (spare : Bool) → is_spare (P.step a).spares page ≡ spare → (is_spare (P.step a).spares page ≡ true) ⊎ P.in_memory a page
      by true is = inl is
      by false is = inr (all.each page within is)

-- ---- calls that reach pages

pub reaches_still : {D : Type 0} (P : Ghosts D) (a : D) → P.outside None a a → OnlyReaches P None a a
reaches_still P a still = record { looks = looks_still (P.step a); outside = still; memory = no_more_still P a; trust = λ t. t; stays = λ t. refl }

pub reaches_then : {D : Type 0} (P : Ghosts D) {refusal : Option Refusal} (law : Joins P) (a b c : D) → OnlyReaches P None a b → OnlyReaches P refusal b c → OnlyReaches P refusal a c
reaches_then P law a b c x y = record {
  looks = looks_then (P.step a) (P.step b) (P.step c) x.looks y.looks;
  outside = law a b c _ x.outside y.outside;
  memory = no_more_then P a b c x.memory y.memory;
  trust = λ t. x.trust (y.trust t);
  stays = λ t. y.stays t ∙ x.stays (y.trust t);
}

-- a page that was changed counts as reached
changed_reached : (s : Step) (page : ℕ) → page < length s.images → is_one_of s.changed page ≡ true → IsReached s page
changed_reached s page lt is = (lt, or_right (is_one_of s.reached page) (is_one_of s.changed page) is)

pub reaches_walks : {D : Type 0} (P : Ghosts D) {refusal : Option Refusal} (a b : D) → OnlyReaches P refusal a b → OnlyWalks P refusal a b
reaches_walks P a b x = record { count = x.looks.count; spares = x.looks.spares; home_a = x.looks.home_a; changed = x.looks.changed; stood = λ page lt is. x.looks.images page (changed_reached (P.step a) page lt is); most_reached = x.looks.most_reached; most_changed = x.looks.most_changed; outside = x.outside; trust = x.trust; stays = x.stays }

pub rest_walks : {D : Type 0} (P : Ghosts D) (a b : D) → P.outside None a b → (P.trusted b → P.trusted a) → P.step b ≡ rested (P.step a) → OnlyWalks P None a b
rest_walks P a b outside trust is = record {
  count = ap (λ (s : Step). length s.images) is;
  spares = ap (λ (s : Step). s.spares) is;
  home_a = ap (λ (s : Step). s.home_a) is;
  changed = ap (λ (s : Step). s.changed) is;
  stood = λ page lt was. ap (λ (s : Step). slice_get s.images page) is;
  most_reached = ap (λ (s : Step). s.most_reached) is;
  most_changed = ap (λ (s : Step). s.most_changed) is;
  outside = outside;
  trust = trust;
  stays = λ t. ap (λ (s : Step). s.images) is;
}

pub walks_then : {D : Type 0} (P : Ghosts D) {refusal : Option Refusal} (law : Joins P) (a b c : D) → OnlyWalks P None a b → OnlyWalks P refusal b c → OnlyWalks P refusal a c
walks_then P law a b c x y = record {
  count = y.count ∙ x.count;
  spares = y.spares ∙ x.spares;
  home_a = y.home_a ∙ x.home_a;
  changed = y.changed ∙ x.changed;
  stood = λ page lt was. y.stood page (omega (arith, lt, x.count)) (ap (λ (pages : List ℕ). is_one_of pages page) x.changed ∙ was) ∙ x.stood page lt was;
  most_reached = y.most_reached ∙ x.most_reached;
  most_changed = y.most_changed ∙ x.most_changed;
  outside = law a b c _ x.outside y.outside;
  trust = λ t. x.trust (y.trust t);
  stays = λ t. y.stays t ∙ x.stays (y.trust t);
}

pub walks_edits : {D : Type 0} (P : Ghosts D) {refusal : Option Refusal} (a b : D) → OnlyWalks P refusal a b → OnlyEdits P refusal a b
walks_edits P a b x = record { count = x.count; home_a = x.home_a; most_reached = x.most_reached; most_changed = x.most_changed; outside = x.outside; trust = x.trust }

pub edits_then : {D : Type 0} (P : Ghosts D) {refusal : Option Refusal} (law : Joins P) (a b c : D) → OnlyEdits P None a b → OnlyEdits P refusal b c → OnlyEdits P refusal a c
edits_then P law a b c x y = record {
  count = y.count ∙ x.count;
  home_a = y.home_a ∙ x.home_a;
  most_reached = y.most_reached ∙ x.most_reached;
  most_changed = y.most_changed ∙ x.most_changed;
  outside = law a b c _ x.outside y.outside;
  trust = λ t. x.trust (y.trust t);
}

-- ---- what the pages show

pub agrees_now : (s : Step) → Agrees s.images s
agrees_now s = record { count = refl; reached = λ page is used. refl }

pub agrees_before : (a b : Step) (images : List (List ℕ)) → Looks a b → Agrees images b → Agrees images a
agrees_before a b images x h = record { count = h.count ∙ x.count; reached = λ page is used. h.reached page (x.reached page is) (ap (λ (t : List Bool). is_spare t page) x.spares ∙ used) ∙ x.images page is }

pub shows_now : (P : List (List ℕ) → Type 0) (s : Step) → ShowsEach s P → P s.images
shows_now P s h = h s.images (agrees_now s)

-- where the outside is trusted, of the images before
pub shows_trusted : {D : Type 0} (G : Ghosts D) {refusal : Option Refusal} (P : List (List ℕ) → Type 0) (a b : D) → OnlyReaches G refusal a b → ShowsEach (G.step b) P → G.trusted b → P (G.step a).images
shows_trusted G P a b x h t = subst P (x.stays t) (shows_now P (G.step b) h)

-- what a page has that was reached
pub agrees_at : (s : Step) (images : List (List ℕ)) (page : ℕ) → IsReached s page → is_spare s.spares page ≡ false → Agrees images s → page_at images page ≡ page_at s.images page
unfolding page_at
agrees_at s images page is used h =
    ap (λ (n : ℕ). option_and_then (read_page page n) (slice_get images page)) h.count
    ∙ ap (λ (o : Option (List ℕ)). option_and_then (read_page page (length s.images)) o) (h.reached page is used)

-- a step that begins and only reaches pages
pub rest_reaches : {D : Type 0} (P : Ghosts D) {refusal : Option Refusal} (law : Joins P) (trust : Trusts P) (a b c : D)
    → P.outside None a b → P.step b ≡ rested (P.step a) → OnlyReaches P refusal b c → OnlyWalks P refusal a c
rest_reaches P law trust a b c outside is x = walks_then P law a b c (rest_walks P a b outside (trust a b None outside) is) (reaches_walks P b c x)

-- ---- pages that are taken

pub reaches_edits : {D : Type 0} (P : Ghosts D) {refusal : Option Refusal} (a b : D) → OnlyReaches P refusal a b → OnlyEdits P refusal a b
reaches_edits P a b x = walks_edits P a b (reaches_walks P a b x)

pub reaches_takes : {D : Type 0} (P : Ghosts D) {refusal : Option Refusal} (a b : D) → OnlyReaches P refusal a b → OnlyTakes P refusal a b
reaches_takes P a b x = record { edits = reaches_edits P a b x; stays = x.stays; agrees = λ images is. agrees_before (P.step a) (P.step b) images x.looks is }

pub takes_takes : {D : Type 0} (P : Ghosts D) {refusal : Option Refusal} (law : Joins P) (a b c : D) → OnlyTakes P None a b → OnlyTakes P refusal b c → OnlyTakes P refusal a c
takes_takes P law a b c x y = record {
  edits = edits_then P law a b c x.edits y.edits;
  stays = λ t. y.stays t ∙ x.stays (y.edits.trust t);
  agrees = λ images is. x.agrees images (y.agrees images is);
}

-- pages that are promised
pub spare_walks : {D : Type 0} (P : Ghosts D) {refusal : Option Refusal} (a b : D) (n : ℕ) → P.outside refusal a b → (P.trusted b → P.trusted a) → Keeps (P.step a) (P.step b).images → (P.trusted b → (P.step b).images ≡ (P.step a).images)
    → P.step b ≡ with_promise n (with_images (P.step b).images (P.step a)) → OnlyWalks P refusal a b
spare_walks P a b n outside trust kept stays is = record {
  count = kept.count;
  spares = ap (λ (s : Step). s.spares) is;
  home_a = ap (λ (s : Step). s.home_a) is;
  changed = ap (λ (s : Step). s.changed) is;
  stood = λ page lt was. kept.reached page (changed_reached (P.step a) page lt was);
  most_reached = ap (λ (s : Step). s.most_reached) is;
  most_changed = ap (λ (s : Step). s.most_changed) is;
  outside = outside;
  trust = trust;
  stays = stays;
}

-- ---- what pages that are changed have

as_changed : (a b : Step) → length b.images ≡ length a.images → b.changed ≡ a.changed → ((page : ℕ) → page < length a.images → is_one_of a.changed page ≡ true → slice_get b.images page ≡ slice_get a.images page)
    → (page : ℕ) → is_one_of b.changed page ≡ true → IsAsChanged a b page
as_changed a b count changed stood page is =
    let was : is_one_of a.changed page ≡ true = ap (λ (pages : List ℕ). is_one_of pages page) (sym changed) ∙ is in
    record {
      was = was;
      same = elim (cases_lt page (length a.images)) [
        | inl lt ↦ stood page lt was
        | inr past ↦ slice_get_past b.images page (omega (arith, past, count)) ∙ sym (slice_get_past a.images page past)
      ];
    }

pub looks_changed : (a b : Step) → Looks a b → (page : ℕ) → is_one_of b.changed page ≡ true → IsAsChanged a b page
looks_changed a b x = as_changed a b x.count x.changed (λ page lt was. x.images page (changed_reached a page lt was))

pub pages_same : (a b : Step) → length b.images ≡ length a.images → b.changed ≡ a.changed → ((page : ℕ) → page < length a.images → is_one_of a.changed page ≡ true → slice_get b.images page ≡ slice_get a.images page) → ChangesPages a b
pages_same a b count changed stood = record { each = λ page is. inl (as_changed a b count changed stood page is) }

pub walks_pages : {D : Type 0} (P : Ghosts D) {refusal : Option Refusal} (a b : D) → OnlyWalks P refusal a b → ChangesPages (P.step a) (P.step b)
walks_pages P a b x = pages_same (P.step a) (P.step b) x.count x.changed x.stood

pub looks_pages : (a b : Step) → Looks a b → ChangesPages a b
looks_pages a b x = record { each = λ page is. inl (looks_changed a b x page is) }

pub kept_pages : (a b : Step) → Keeps a b.images → b.changed ≡ a.changed → ChangesPages a b
kept_pages a b kept changed = pages_same a b kept.count changed (λ page lt was. kept.reached page (changed_reached a page lt was))

pub pages_then : (a b c : Step) → length c.images ≡ length b.images → ChangesPages a b → ChangesPages b c → ChangesPages a c
unfolding page_at
pages_then a b c count x y = record {
  each = λ page is. elim (y.each page is) [
    | inl here ↦ elim (x.each page here.was) [
      | inl before ↦ inl (record { was = before.was; same = here.same ∙ before.same })
      | inr read ↦ inr (record {
        there = omega (arith, read.there, count);
        accepted = subst (λ (o : Option (List ℕ)). IsSome (option_and_then (read_page page (length c.images)) o)) (sym here.same) (subst (λ (n : ℕ). IsSome (option_and_then (read_page page n) (slice_get b.images page))) (sym count) read.accepted);
      })
    ]
    | inr read ↦ inr read
  ];
}
