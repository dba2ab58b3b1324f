-- Pages in memory, with the bytes of one of them written.
use Rattle.std.specs.Prelude.{ℕ, ◌≤◌, List, false, slice_set}
use Rattle.std.specs.Vec.{with_item}
use Rattle.std.proofs.Common.{subst, sym, ◌∙◌, length-set}
use Rattle.name_page.specs.Pages.{with_one}
use Rattle.name_page.specs.Accepted.{still_accepted}
use Rattle.name_page.specs.declared.vec_pages.VecPages.{VecPages}

abbrev pub written : VecPages → ℕ → List ℕ → VecPages
written s page bytes =
    let Small : ℕ → Type 0 = λ n. n ≤ 4096 in
    let same = sym (length-set s.pages.items page bytes) in
    record {
      pages = with_item s.pages page bytes;
      spare = s.spare;
      free = s.free;
      accepted = slice_set s.accepted page false;
      home_a = s.home_a;
      reached = s.reached;
      changed = record { items = with_one s.changed.items page };
      promised = s.promised;
      refusal = s.refusal;
      small = subst Small same s.small;
      flags = s.flags ∙ same;
      counted = s.counted;
      kept = s.kept;
      are_accepted = still_accepted s.accepted s.pages.items page bytes s.are_accepted;
    }
