-- A draft with a page more, and what may go into one.
use Rattle.std.proofs.Common.{◌≡◌, ℕ, List, take, drop, sym, ap, subst, ◌∙◌, take-append-drop}
use Rattle.std.specs.List.{AllByRecursion}
use Rattle.run_table.specs.Space.{all_differ}
use Rattle.fsd_formats.specs.NamePage.{Content}
use Rattle.fsd_table.proofs.BoundLaws.{all_split}
use Rattle.name_page.specs.Pages.{Step}
use Rattle.name_btree.specs.declared.draft.Draft.{Draft}
use Rattle.name_btree.specs.Draft.{IsTreeDraft, IsDrafted, MayGo}

pub draft_with : (s : Step) (old new : Draft) (page : ℕ) (x : Content) → IsTreeDraft s old → IsDrafted s old.sheets.items new.sheets.items page x → new.freed.items ≡ old.freed.items → IsTreeDraft s new
draft_with s old new page x is put same = record { sheets = put.sheets; freed = subst (AllByRecursion (MayGo s)) (sym same) is.freed; apart = ap all_differ same ∙ is.apart }

-- ---- the parts of a list

module _ {X : Type 0} (P : X → Type 0) (xs : List X) (i : ℕ) (all : AllByRecursion P xs) (ys : List X) where
  parts : AllByRecursion P (take i xs) × AllByRecursion P (drop i xs)
  parts = all_split P (take i xs) (drop i xs) (subst (AllByRecursion P) (sym (take-append-drop i xs)) all)

  pub all_front : ys ≡ take i xs → AllByRecursion P ys
  all_front is = subst (AllByRecursion P) (sym is) parts.0

  pub all_back : ys ≡ drop i xs → AllByRecursion P ys
  all_back is = subst (AllByRecursion P) (sym is) parts.1
