-- What is left where a table over a cache was opened, used and let go.
use Rattle.std.proofs.Common.{◌≡◌, ℕ, Bool, List, length, Option, sym, ap, subst, ◌∙◌}
use Rattle.std.specs.Borrow.{MutBor}
use Rattle.fsd_bytes.specs.declared.refusal.Refusal.{Refusal}
use Rattle.sector_disk.specs.declared.machine.Machine.{Ghosts as MachineGhosts}
use Rattle.sector_disk.specs.Calls.{OnlyReads}
use Rattle.page_cache.specs.declared.source.PageSource.{Ghosts as SourceGhosts}
use Rattle.page_cache.specs.Cache.{AreNewest, CacheValue, is_among}
use Rattle.table_pages.specs.Bringing.{IsTrusted, given_by}
use Rattle.table_pages.specs.Kept.{IsReady}
use Rattle.table_pages.specs.Reads.{Fills, LosesFor, outer_device}
use Rattle.table_pages.specs.Table.{IsOver, LeavesTable, ReadsOnly, Trusted, step_of}
use Rattle.table_pages.specs.declared.table.Table.{Table}
use Rattle.table_pages.proofs.StepLaws.{same_images}
use Rattle.cached_table.specs.Looking.{images_by}

-- so it is of what equals it
pub left_as : {D E : Type 0} {M : MachineGhosts D} {S : SourceGhosts E} {b : Table D E M S} {m m' : D} {cache cache' : CacheValue} {free free' : List Bool} → LeavesTable b m cache free → m' ≡ m → cache' ≡ cache → free' ≡ free → LeavesTable b m' cache' free'
left_as {D = D} {b = b} {m = m} {m' = m'} {cache = cache} {cache' = cache'} {free' = free'} left same same_cache same_flags =
    subst (λ (n : D). LeavesTable b n cache' free') (sym same) (subst (λ (c : CacheValue). LeavesTable b m c free') (sym same_cache) (subst (LeavesTable b m cache) (sym same_flags) left))

module _ {D E : Type 0} {M : MachineGhosts D} {S : SourceGhosts E} {refusal : Option Refusal} {m : MutBor D} {cache : MutBor CacheValue} {source : E} {free : MutBor (List Bool)} {a b : Table D E M S}
    {m' : D} {cache' : CacheValue} {free' : List Bool} (over : IsOver m cache source free a) (outside : ReadsOnly refusal a b) (left : LeavesTable b m' cache' free') where
  source_b : b.source.now ≡ source
  source_b = outside.source ∙ over.from

  pub trusted_left : IsTrusted M S source m.now cache.now m' → Trusted b
  trusted_left t = subst (λ (e : E). IsTrusted M S e b.made_over.value b.made_with.value b.m.now) (sym source_b)
      (subst (λ (f : D). IsTrusted M S source f b.made_with.value b.m.now) (sym (outside.made_over ∙ over.made_over))
      (subst (λ (h : CacheValue). IsTrusted M S source m.now h b.m.now) (sym (outside.made_with ∙ over.made_with)) (subst (IsTrusted M S source m.now cache.now) left.machine t)))

  pub images_left : images_by M S source m' cache' (length free') ≡ (step_of b).images
  images_left = ap (λ (e : E). images_by M S e m' cache' (length free')) (sym source_b)
      ∙ ap (λ (n : D). images_by M S b.source.now n cache' (length free')) left.machine
      ∙ ap (λ (f : List Bool). images_by M S b.source.now b.m.now cache' (length f)) left.flags
      ∙ same_images b.cache.now cache' (given_by M S b.source.now b.m.now) (length b.free.now) left.pins.bytes

  pub reads_left : OnlyReads M (outer_device refusal) m.now m'
  reads_left = subst (OnlyReads M (outer_device refusal) m.now) (sym left.machine) (subst (λ (x : MutBor D). OnlyReads M (outer_device refusal) x.now b.m.now) over.machine outside.reads)

  pub loses_left : LosesFor M S source refusal m'
  loses_left = subst (LosesFor M S source refusal) (sym left.machine) (subst (λ (e : E). LosesFor M S e refusal b.m.now) source_b outside.loses)

  fills_b : Fills M S source m.now m' cache.now b.cache.now
  fills_b = subst (λ (n : D). Fills M S source m.now n cache.now b.cache.now) (sym left.machine)
      (subst (λ (e : E). Fills M S e m.now b.m.now cache.now b.cache.now) over.from
      (subst (λ (x : MutBor D). Fills M S a.source.now x.now b.m.now cache.now b.cache.now) over.machine
      (subst (λ (x : MutBor CacheValue). Fills M S a.source.now a.m.now b.m.now x.now b.cache.now) over.cached outside.fills)))

  pub fills_left : Fills M S source m.now m' cache.now cache'
  fills_left = record {
    frames = left.pins.frames ∙ fills_b.frames;
    dirty = λ page was. ap (λ (d : List ℕ). is_among d page) left.pins.dirty ∙ fills_b.dirty page was;
    stood = λ h page bytes out is. fills_b.stood h page bytes (ap (λ (d : List ℕ). is_among d page) (sym left.pins.dirty) ∙ out) (sym (left.pins.bytes page) ∙ is);
  }

  pub ready_left : IsReady M S m' cache' source free'
  ready_left = subst (λ (e : E). IsReady M S m' cache' e free') source_b left.ready

  pub clean_left : IsTrusted M S source m.now cache.now m' → AreNewest (given_by M S source m') cache'
  clean_left t = subst (λ (e : E). AreNewest (given_by M S e m') cache') source_b (left.clean (trusted_left t))
