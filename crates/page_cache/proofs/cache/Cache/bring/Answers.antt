use Rattle.std.proofs.Common.{◌≡◌, ◌∙◌, Option, List, ℕ, Some, refl, ap, sym, subst}
use Rattle.std.specs.Prelude.{IfSome}
use Rattle.std.proofs.lemmas.Result.{err_from_is_err_and}
use Rattle.page_cache.specs.Cache.{CacheValue, cached_bytes}
use Rattle.page_cache.proofs.FetchLaws.{entered_bytes}
use Rattle.page_cache.proofs.cache.Cache.bring.Goals as goal

pub returns-in_err-load : goal.returns-in_err-load
returns-in_err-load g c =
    let failed = c.in_err-load.ensures in
    let p = err_from_is_err_and c.from_residual.result c.from_residual.ensures.1 in
    rw (p.1, p.2) (record {
      enters = tt;
      newest = tt;
      reads = failed.reads;
      failed = record { kept = refl; lost = failed.lost; never_lost = failed.never_lost };
      frames = record { in_use = refl; frames = refl };
    })

pub returns-in_err-enter : goal.returns-in_err-enter
returns-in_err-enter g c =
    let failed = c.in_err-enter.ensures in
    let p = err_from_is_err_and c.from_residual-in_err-enter.result c.from_residual-in_err-enter.ensures.1 in
    rw (p.1, p.2) (record {
      enters = tt;
      newest = tt;
      reads = c.in_ok-load.ensures.reads;
      failed = record { kept = failed.kept; lost = λ h. tt; never_lost = λ h knows. tt };
      frames = record { in_use = failed.busy; frames = ap (λ (x : CacheValue). x.frames) failed.kept };
    })

pub returns : goal.returns
returns g c =
    let S = g.S.PageSource in
    let old = g.M.Machine.now c.args.m.now in
    let loaded = c.in_ok-load.ensures in
    let has = c.in_ok-enter.ensures in
    let bytes : List ℕ = c.load.new.buf in
    let is : cached_bytes c.enter.new.self c.args.page ≡ Some bytes = entered_bytes c.args.page bytes c.args.self.now c.enter.new.self has.entered in
    record {
      enters = record {
        frame = has.frame;
        enters = (bytes, has.entered);
        whole = λ h. subst (λ (o : Option (List ℕ)). IfSome o (S.stands c.args.source.now c.args.page old.image)) (sym is) (loaded.whole h);
        given = λ h knows. loaded.newest h knows ∙ sym is;
      };
      newest = λ h knows. has.newest (S.newest c.args.source.now old.image) (loaded.newest h knows);
      reads = loaded.reads;
      failed = tt;
      frames = record { in_use = has.busy; frames = ap (λ (x : CacheValue). x.frames) has.entered };
    }
