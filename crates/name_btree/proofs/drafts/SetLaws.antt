-- Pages of which one is written.
use Rattle.std.proofs.Common.{◌≡◌, ℕ, zero, suc, ◌<◌, List, [], ◌∷◌, length, Some, refl, ap, ◌∙◌, arith}
use Rattle.std.specs.Prelude.{slice_get, slice_set, option_and_then}
use Rattle.std.proofs.lemmas.List.{length-set}
use Rattle.fsd_formats.specs.NamePage.{Content, read_page}
use Rattle.fsd_table.specs.Pages.{page_at}
pub use Rattle.name_page.specs.Accepted.{set_other, at_other}
use Rattle.name_page.specs.Pages.{Step, with_page}
use Rattle.name_btree.specs.Replace.{IsWritten}

set_here : (pages : List (List ℕ)) (page : ℕ) (bytes : List ℕ) → page < length pages → slice_get (slice_set pages page bytes) page ≡ Some bytes
set_here [] page bytes low = absurd (omega arith)
set_here (x ∷ pages) zero bytes low = refl
set_here (x ∷ pages) (suc page) bytes low = set_here pages page bytes (omega arith)

at_here : (pages : List (List ℕ)) (page : ℕ) (bytes : List ℕ) (x : Content) → page < length pages → ((p : ℕ) → read_page page p bytes ≡ Some x) → page_at (slice_set pages page bytes) page ≡ Some x
unfolding page_at
at_here pages page bytes x low read = ap (option_and_then (read_page page (length (slice_set pages page bytes)))) (set_here pages page bytes low) ∙ read (length (slice_set pages page bytes))

-- a page that is written has what its bytes have
pub set_at : (pages : List (List ℕ)) (page : ℕ) (bytes : List ℕ) → page < length pages → page_at (slice_set pages page bytes) page ≡ read_page page (length pages) bytes
unfolding page_at
set_at pages page bytes low =
    ap (option_and_then (read_page page (length (slice_set pages page bytes)))) (set_here pages page bytes low)
    ∙ ap (λ (n : ℕ). read_page page n bytes) (length-set pages page bytes)

pub written : (old new : Step) (page : ℕ) (bytes : List ℕ) (x : Content) → new ≡ with_page page bytes old → page < length old.images → ((p : ℕ) → read_page page p bytes ≡ Some x) → IsWritten old new page x
written old new page bytes x step low read =
    let images : new.images ≡ slice_set old.images page bytes = ap (λ (s : Step). s.images) step in record {
      bytes = bytes;
      step = step;
      content = ap (λ (p : List (List ℕ)). page_at p page) images ∙ at_here old.images page bytes x low read;
      others = λ q differs. ap (λ (p : List (List ℕ)). page_at p q) images ∙ at_other old.images page q bytes differs;
    }
