-- What is drafted over what was reached, whatever the other pages have.
use Rattle.std.proofs.Common.{◌≡◌, inl, inr, ℕ, ◌<◌, List, [], ◌∷◌, length, None, refl, sym, ap, subst, ◌∙◌, arith}
use Rattle.std.specs.List.{AllByRecursion}
use Rattle.fsd_formats.specs.declared.entry.Entry.{Entry}
use Rattle.fsd_formats.specs.declared.page.Separator.{Separator}
use Rattle.fsd_formats.specs.NamePage.{Content}
use Rattle.std.specs.Prelude.{slice_get}
use Rattle.name_page.specs.declared.pages.Pages.{Ghosts}
use Rattle.name_page.specs.Looks.{Looks, OnlyTakes}
use Rattle.name_page.specs.Pages.{Step, with_images, IsReached}
use Rattle.name_btree.specs.declared.draft.Draft.{Draft}
use Rattle.name_btree.specs.declared.draft.Sheet.{Sheet}
use Rattle.name_btree.specs.declared.trimming.Pair.{Pair}
use Rattle.name_btree.specs.declared.trimming.Trimmed.{Trimmed}
use Rattle.name_btree.specs.declared.trimming.Trimmed.TheVariants.{Whole, Leaf, Interior}
use Rattle.name_btree.specs.Draft.{IsTreeDraft, IsDrafted}
use Rattle.name_btree.specs.Trim.{IsLeafPut, AreWaysPut, AreJoined, AreShared, AreLeavesMended, AreWaysMended}
use Rattle.name_btree.specs.declared.growing.Grown.TheVariants as Grown
use Rattle.name_btree.specs.Grown.{TakesSpare, IsGrown}
use Rattle.name_btree.proofs.drafts.DraftLaws.{sheets_kept}
use Rattle.name_btree.proofs.mending.MendLaws.{draft_kept}
use Rattle.name_btree.proofs.mending.RemoveLaws.{one_page}
use Rattle.name_btree.proofs.drafts.TakeLaws.{takes_none, used_over}

module _ (s : Step) (images : List (List ℕ)) (same : length images ≡ length s.images) where
  abbrev now : Step
  now = with_images images s

  still : (q : ℕ) → IsReached s q → IsReached now q
  still q h = (subst (λ (n : ℕ). q < n) (sym same) h.0, h.1)

  pub drafted_over : (old new : List Sheet) (page : ℕ) (x : Content) → IsDrafted s old new page x → IsDrafted now old new page x
  drafted_over old new page x d = record {
    one = d.one;
    sheets = sheets_kept s now new still refl same d.sheets;
    content = (d.over images same).content;
    others = (d.over images same).others;
    over = λ pages e. d.over pages (e ∙ same);
    own = d.own;
    stay = d.stay;
  }

  pub leaf_over : (old new : List Sheet) (page : ℕ) (entries : List Entry) (left : Trimmed) → IsLeafPut s old new page entries left → IsLeafPut now old new page entries left
  leaf_over old new page entries Whole h = drafted_over old new page _ h
  leaf_over old new page entries (Leaf list) h = h
  leaf_over old new page entries (Interior first list) h = h

  ways_over : (old new : List Sheet) (page first : ℕ) (separators : List Separator) (left : Trimmed) → AreWaysPut s old new page first separators left → AreWaysPut now old new page first separators left
  ways_over old new page first separators Whole h = drafted_over old new page _ h
  ways_over old new page first separators (Leaf list) h = h
  ways_over old new page first separators (Interior f list) h = h

  module _ (old new : Draft) (page first : ℕ) (separators : List Separator) (pair : Pair) (left : Trimmed) where
    joined_over : (x : Content) → AreJoined s old new page first separators pair x left → AreJoined now old new page first separators pair x left
    joined_over x j = record { middle = j.middle; one = drafted_over _ _ _ _ j.one; above = ways_over _ _ _ _ _ left j.above; freed = j.freed }

    shared_over : (x y : Content) (key : _) → AreShared s old new page first separators pair x y key left → AreShared now old new page first separators pair x y key left
    shared_over x y key j = record {
      middle = j.middle;
      last = j.last;
      one = drafted_over _ _ _ _ j.one;
      other = drafted_over _ _ _ _ j.other;
      above = drafted_over _ _ _ _ j.above;
      freed = j.freed;
      whole = j.whole;
    }

    pub leaves_over : (entries : List Entry) → AreLeavesMended s old new page first separators pair entries left → AreLeavesMended now old new page first separators pair entries left
    leaves_over entries (inl j) = inl (joined_over _ j)
    leaves_over entries (inr j) = inr (record { xs = j.xs; y = j.y; ys = j.ys; parts = j.parts; shared = shared_over _ _ _ j.shared })

    pub interiors_over : (lead : ℕ) (list : List Separator) → AreWaysMended s old new page first separators pair lead list left → AreWaysMended now old new page first separators pair lead list left
    interiors_over lead list (inl j) = inl (joined_over _ j)
    interiors_over lead list (inr j) = inr (record { xs = j.xs; s = j.s; ys = j.ys; parts = j.parts; shared = shared_over _ _ _ j.shared })

-- ---- pages that are taken

module _ (images : List (List ℕ)) (a b : Step) (came : List ℕ) (same : length images ≡ length a.images) (t : TakesSpare a b came) where
  taken_over : (ps : List ℕ) → AllByRecursion (IsReached b) ps → AllByRecursion (IsReached (with_images images b)) ps
  taken_over [] h = tt
  taken_over (p ∷ ps) h = ((subst (λ (n : ℕ). p < n) (ap length t.images ∙ sym same) h.0.0, h.0.1), taken_over ps h.1)

  pub takes_over : TakesSpare (with_images images a) (with_images images b) came
  takes_over = record {
    images = refl;
    most_reached = t.most_reached;
    most_changed = t.most_changed;
    promised = t.promised;
    changes = t.changes;
    taken = record { spare = t.taken.spare; apart = t.taken.apart; spares = t.taken.spares };
    changed = t.changed;
    reached = λ q h. (h.0, (t.reached q (subst (λ (n : ℕ). q < n) same h.0, h.1)).1);
    own = taken_over came t.own;
  }

pub reached_over : (images : List (List ℕ)) (s : Step) (page : ℕ) → length images ≡ length s.images → IsReached s page → IsReached (with_images images s) page
reached_over images s page same h = (subst (λ (n : ℕ). page < n) (sym same) h.0, h.1)

-- a page that has all
pub grown_whole : (step : Step) (old new : List Sheet) (page : ℕ) (x : Content) → IsDrafted step old new page x → IsGrown step step old new page Grown.Whole
grown_whole step old new page x d = record {
  takes = takes_none step step refl refl refl (record { changed = refl; most_changed = refl; promised = refl }) (λ q h. h);
  few = omega (arith, d.one);
  ready = d.sheets;
  stay = λ q out. d.others q (one_page page q out);
  sound = tt;
  place = tt;
}

pub takes_looked : (images : List (List ℕ)) (a b : Step) → length images ≡ length a.images → Looks a b → TakesSpare (with_images images a) (with_images images b) []
takes_looked images a b same x = takes_none (with_images images a) (with_images images b) refl x.spares x.most_reached (record { changed = x.changed; most_changed = x.most_changed; promised = x.promised })
    (λ q h. (h.0, (x.reached q (subst (λ (n : ℕ). q < n) same h.0, h.1)).1))

-- pages that were taken, and nothing else
pub takes_only : {D : Type 0} (P : Ghosts D) (a b : D) (images : List (List ℕ)) (came : List ℕ) → length images ≡ length (P.step a).images → TakesSpare (with_images images (P.step a)) (with_images images (P.step b)) came
    → P.outside None a b → (P.trusted b → P.trusted a) → (P.step b).images ≡ (P.step a).images → (P.step b).home_a ≡ (P.step a).home_a → OnlyTakes P None a b
takes_only P a b images came same t outside trust kept home = record {
  edits = record { count = ap length kept; home_a = home; most_reached = t.most_reached; most_changed = t.most_changed; outside = outside; trust = trust };
  stays = λ trusted. kept;
  agrees = λ pages h. record {
    count = h.count ∙ ap length kept;
    reached = λ q is used.
        let low : q < length images = subst (λ (n : ℕ). q < n) (sym same) is.0 in
        let there = t.reached q (low, is.1) in
        h.reached q (subst (λ (n : ℕ). q < n) (same ∙ sym (ap length kept)) low, there.1) (used_over (with_images images (P.step a)) (with_images images (P.step b)) came q t used) ∙ ap (λ (p : List (List ℕ)). slice_get p q) kept;
  };
}

pub draft_over : (images : List (List ℕ)) (s : Step) (d : Draft) → length images ≡ length s.images → IsTreeDraft s d → IsTreeDraft (with_images images s) d
draft_over images s d same is = draft_kept s (with_images images s) d (λ q h. reached_over images s q same h) refl same is
