use Rattle.std.proofs.Common.{◌≡◌, ◌≤◌, ◌+◌, ℕ, List, sym, subst}
use Rattle.std.specs.Prelude.{count_by, nat_eq}
use Rattle.page_cache.specs.Cache.{pins_of}
use Rattle.table_pages.proofs.bringing.release.Goals as goal

pub unpin_all-requires : goal.unpin_all-requires
unpin_all-requires g c = subst (λ (pages : List ℕ). (q : ℕ) → count_by (nat_eq q) pages ≤ pins_of c.args.cache.now q) (sym c.as_slice.ensures.value) c.requires

pub returns-clause-pins : goal.returns-clause-pins
returns-clause-pins g c = subst (λ (pages : List ℕ). (q : ℕ) → pins_of c.unpin_all.new.cache q + count_by (nat_eq q) pages ≡ pins_of c.args.cache.now q) c.as_slice.ensures.value c.unpin_all.ensures.pins
