-- The grammar accepts pages that are marked.
use Rattle.std.proofs.Common.{◌≡◌, ℕ, zero, suc, true, false, List, Option, Some, None, Result, Ok, Err, refl, sym, ap, ◌∙◌}
use Rattle.std.specs.Prelude.{length, is_some, is_ok, option_and_then, option_map, replicate, slice_get, slice_index_or, IfOk, IfErr}
use Rattle.fsd_formats.specs.declared.page.Page.{Page}
use Rattle.fsd_formats.specs.NamePage.{Content, read_page}
use Rattle.fsd_table.specs.Pages.{page_at}
use Rattle.name_page.specs.declared.fault.PageFault.{PageFault}
use Rattle.name_page.specs.Accepted.{AreAccepted, never_both}
use Rattle.name_page.specs.Reading.{head_of}

all_false : (n page : ℕ) → slice_index_or (replicate n false) page false ≡ false
all_false zero page = refl
all_false (suc n) zero = refl
all_false (suc n) (suc page) = all_false n page

pub none_marked : (n : ℕ) (pages : List (List ℕ)) → AreAccepted (replicate n false) pages
none_marked n pages = λ page h. absurd (never_both (sym (all_false n page) ∙ h))

-- what a page's reading tells
pub read_tells : (pages : List (List ℕ)) (page p : ℕ) (bytes : List ℕ) (r : Result Page PageFault) → slice_get pages page ≡ Some bytes → p ≡ length pages
    → IfOk r (λ head. option_map head_of (read_page page p bytes) ≡ Some head) → IfErr r (λ fault. read_page page p bytes ≡ None) → is_ok r ≡ is_some (page_at pages page)
unfolding page_at
read_tells pages page p bytes r at count ok err =
    by r ok err ∙ ap (λ (n : ℕ). is_some (read_page page n bytes)) count ∙ ap (λ (o : Option (List ℕ)). is_some (option_and_then (read_page page (length pages)) o)) (sym at)
  where
    some : (o : Option Content) (head : Page) → option_map head_of o ≡ Some head → true ≡ is_some o
    some (Some x) head e = refl
    some None head e = absurd (let no = e in cc)

    by : (r : Result Page PageFault) → IfOk r (λ head. option_map head_of (read_page page p bytes) ≡ Some head) → IfErr r (λ fault. read_page page p bytes ≡ None) → is_ok r ≡ is_some (read_page page p bytes)
    by (Ok head) ok err = some (read_page page p bytes) head ok
    by (Err fault) ok err = ap is_some (sym err)
