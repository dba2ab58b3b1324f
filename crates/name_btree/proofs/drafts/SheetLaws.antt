-- Pages that are taken, each of which is to be written.
use Rattle.std.proofs.Common.{◌≡◌, inl, inr, ℕ, ◌<◌, Bool, true, false, cond, List, [], ◌∷◌, length, Option, Some, None, refl, sym, ap, subst, ◌∙◌}
use Rattle.std.specs.Prelude.{IsSome, slice_get, ◌==◌}
use Rattle.run_table.specs.Space.{contains}
use Rattle.fsd_formats.specs.NamePage.{Content, read_page}
use Rattle.fsd_table.specs.Pages.{page_at}
use Rattle.name_page.specs.Looks.{ChangesPages, IsAccepted, Looks}
use Rattle.name_page.specs.Pages.{Step}
use Rattle.name_page.proofs.LookLaws.{looks_changed}
use Rattle.name_btree.specs.declared.draft.Sheet.{Sheet}
use Rattle.name_btree.specs.Draft.{AreSheets, HasSheet, IsDrafted, TakesSheets, committed, drafted, freed, last_sheet}
use Rattle.name_btree.specs.Grown.{TakesSpare, front_came}
use Rattle.name_btree.proofs.drafts.DraftLaws.{by_sheet, committed_images, drafted_at, drafted_length, freed_images, sheet_is}
use Rattle.name_btree.proofs.drafts.TakeLaws.{only_one}
use Rattle.name_btree.proofs.drafts.WrittenPages.{commit_pages}

-- ---- one call after another

pub sheets_then : (a b c : Step) (s0 s1 s2 : List Sheet) → TakesSheets a b s0 s1 → TakesSheets b c s1 s2 → TakesSheets a c s0 s2
sheets_then a b c s0 s1 s2 x y = record {
  each = λ page is. elim (y.each page is) [
    | inl here ↦ elim (x.each page here.was) [
      | inl before ↦ inl (record { was = before.was; same = here.same ∙ before.same })
      | inr drawn ↦ inr (y.stay page drawn)
    ]
    | inr drawn ↦ inr drawn
  ];
  stay = λ page drawn. y.stay page (x.stay page drawn);
}

pub sheets_still : (step : Step) (sheets : List Sheet) → TakesSheets step step sheets sheets
sheets_still step sheets = record { each = λ page is. inl (record { was = is; same = refl }); stay = λ page drawn. drawn }

pub sheets_looked : (a b : Step) (sheets : List Sheet) → Looks a b → TakesSheets a b sheets sheets
sheets_looked a b sheets x = record { each = λ page is. inl (looks_changed a b x page is); stay = λ page drawn. drawn }

-- ---- sheets more

pub one_sheet : (step : Step) (old new : List Sheet) (page : ℕ) (x : Content) → IsDrafted step old new page x → TakesSheets step step old new
one_sheet step old new page x d = record { each = λ q is. inl (record { was = is; same = refl }); stay = d.stay }

front_only : (page left q : ℕ) → contains (front_came page left) q ≡ true → left ≡ q
front_only page left q there = by (page == 0) there
  where
    by : (b : Bool) → contains (cond b (left ∷ []) []) q ≡ true → left ≡ q
    by true is = only_one left q is
    by false is = absurd (cc is)

-- both parts of a page, of which each one that was taken is to be written
pub two_sheets : (a b c : Step) (s0 s1 s2 : List Sheet) (page left right : ℕ) (x y : Content) → TakesSpare a b (front_came page left) → TakesSpare b c (right ∷ []) → IsDrafted c s0 s1 left x → IsDrafted c s1 s2 right y → TakesSheets a c s0 s2
two_sheets a b c s0 s1 s2 page left right x y front behind one other = record {
  each = λ q is. elim (behind.changed q is) [
    | inl then ↦ elim (front.changed q then) [
      | inl was ↦ inl (record { was = was; same = ap (λ (p : List (List ℕ)). slice_get p q) (behind.images ∙ front.images) })
      | inr came ↦ inr (subst (HasSheet s2) (front_only page left q came) (other.stay left one.own))
    ]
    | inr came ↦ inr (subst (HasSheet s2) (only_one right q came) other.own)
  ];
  stay = λ q drawn. other.stay q (one.stay q drawn);
}

-- ---- what is written

-- a page with a sheet is accepted, once the draft is written
sheet_accepted : (step new : Step) (sheets : List Sheet) (page : ℕ) → AreSheets step sheets → new.images ≡ drafted sheets step.images → HasSheet sheets page → IsAccepted new page
sheet_accepted step new sheets page all written drawn = by (last_sheet page sheets) refl drawn
  where
    by : (o : Option (List ℕ)) → last_sheet page sheets ≡ o → IsSome o → IsAccepted new page
    by None last some = absurd (cc some)
    by (Some bytes) last some =
        let sheet = sheet_is step sheets page bytes all last in
        let size : length new.images ≡ length step.images = ap (λ (p : List (List ℕ)). length p) written ∙ drafted_length sheets step.images in
        let has : page_at new.images page ≡ read_page page (length step.images) bytes = ap (λ (p : List (List ℕ)). page_at p page) written ∙ drafted_at sheets step.images page sheet.reached.0 ∙ ap (by_sheet page step.images) last in
        record {
          there = subst (λ (n : ℕ). page < n) (sym size) sheet.reached.0;
          accepted = subst (λ (x : Option Content). IsSome x) (sym has) sheet.accepted;
        }

-- what pages that are changed have, once a draft is written over those that were taken
pub sheets_pages : (a b c : Step) (pages : List ℕ) (old sheets : List Sheet) → TakesSheets a b old sheets → AreSheets b sheets → c ≡ freed pages (committed sheets b) → ChangesPages a c
sheets_pages a b c pages old sheets takes all is =
    let written : c.images ≡ drafted sheets b.images = ap (λ (s : Step). s.images) is ∙ freed_images pages (committed sheets b) ∙ committed_images sheets b in
    record {
      each = λ page now. elim ((commit_pages pages sheets b c all is).each page now) [
        | inl here ↦ elim (takes.each page here.was) [
          | inl before ↦ inl (record { was = before.was; same = here.same ∙ before.same })
          | inr drawn ↦ inr (sheet_accepted b c sheets page all written drawn)
        ]
        | inr read ↦ inr read
      ];
    }
