use Rattle.std.proofs.Common.{◌≡◌, inl, inr, ◌∙◌, ◌++◌, ◌∷◌, [], ◌||◌, Bool, true, false, List, ℕ, refl, sym, ap, subst, arith, ◌<◌, ◌^◌}
use Rattle.std.specs.Prelude.{◌==◌, IsTrue}
use Rattle.std.proofs.lemmas.List.Folds.{list_any-append}
use Rattle.fsd_bytes.specs.declared.refusal.Refusal.{Refusal}
use Rattle.name_page.specs.Pages.{Step, IsReachRefusal, Keeps, is_one_of, with_images, with_reached, with_refusal}
use Rattle.name_page.specs.Looks.{Looks}
use Rattle.name_btree.specs.Fault.{BarsPage, IsCaused}
use Rattle.name_page.proofs.LookLaws.{no_more_reached}
use Rattle.name_page.proofs.NodeLaws.{seen, seen_some}
use Rattle.name_btree.proofs.child.read_at.Goals as goal

pub node_in-requires : goal.node_in-requires
node_in-requires g c =
    let pages = (g.T.Pages.step c.reach.new.self).images in
    let small : c.args.page < 2 ^ 32 = omega arith in
    seen_some pages c.args.page c.look.result.now small (omega (arith, g.met.T.Pages.small c.reach.new.self)) c.look.ensures c.in-Ok.ensures.done.accepted

pub returns-in-Ok-clause-read : goal.returns-in-Ok-clause-read
returns-in-Ok-clause-read g c =
    let pages = (g.T.Pages.step c.reach.new.self).images in
    let small : c.args.page < 2 ^ 32 = omega arith in
    record {
      reached = c.in-Ok.ensures.done.reached;
      used = c.in-Ok.ensures.done.used;
      node = seen pages c.args.page c.look.result.now small (omega (arith, g.met.T.Pages.small c.reach.new.self)) c.look.ensures c.in-Ok.ensures.done.accepted ∙ c.node_in.ensures;
    }

-- ---- the step has reached a page, or was refused one

-- a refusal of a page that is reached is one of a tree's
barred : (s : Step) (page : ℕ) (refusal : Refusal) → IsReachRefusal s page refusal → IsCaused s (BarsPage s page) refusal
barred s page refusal (inl outer) = inl outer
barred s page refusal (inr bad) = inr (page, bad.0, (refl, bad.1))

more : (a b d : Bool) → (a || d) ≡ true → ((a || b) || d) ≡ true
more true b d is = refl
more false true d is = refl
more false false d is = is

-- what was reached before still is
still : (reached changed : List ℕ) (page q : ℕ) → (is_one_of reached q || is_one_of changed q) ≡ true → (is_one_of (reached ++ page ∷ []) q || is_one_of changed q) ≡ true
still reached changed page q is =
    ap (λ (x : Bool). x || is_one_of changed q) (list_any-append (λ (other : ℕ). other == q) reached (page ∷ []))
    ∙ more (is_one_of reached q) (is_one_of (page ∷ []) q) (is_one_of changed q) is

looks_reached : (a b : Step) (page : ℕ) → Keeps a b.images → b ≡ with_reached page (with_images b.images a) → Looks a b
looks_reached a b page kept is = record {
  count = kept.count;
  images = kept.reached;
  reached = λ q there. (omega (arith, there.0, kept.count), subst (λ (s : Step). IsTrue (is_one_of s.reached q || is_one_of s.changed q)) (sym is) (still a.reached a.changed page q there.1));
  spares = ap (λ (s : Step). s.spares) is;
  home_a = ap (λ (s : Step). s.home_a) is;
  changed = ap (λ (s : Step). s.changed) is;
  promised = ap (λ (s : Step). s.promised) is;
  most_reached = ap (λ (s : Step). s.most_reached) is;
  most_changed = ap (λ (s : Step). s.most_changed) is;
}

looks_refused : (a b : Step) (refusal : Refusal) → Keeps a b.images → b ≡ with_refusal refusal (with_images b.images a) → Looks a b
looks_refused a b refusal kept is = record {
  count = kept.count;
  images = kept.reached;
  reached = λ q there. (omega (arith, there.0, kept.count), subst (λ (s : Step). IsTrue (is_one_of s.reached q || is_one_of s.changed q)) (sym is) there.1);
  spares = ap (λ (s : Step). s.spares) is;
  home_a = ap (λ (s : Step). s.home_a) is;
  changed = ap (λ (s : Step). s.changed) is;
  promised = ap (λ (s : Step). s.promised) is;
  most_reached = ap (λ (s : Step). s.most_reached) is;
  most_changed = ap (λ (s : Step). s.most_changed) is;
}

pub returns-in-Ok-clause-calls : goal.returns-in-Ok-clause-calls
returns-in-Ok-clause-calls g c =
    let P = g.T.Pages in
    let a = c.args.t.now in
    let b = c.reach.new.self in
    record {
      looks = looks_reached (P.step a) (P.step b) c.args.page c.reach.ensures.images.kept c.in-Ok.ensures.done.step;
      outside = c.in-Ok.ensures.outside;
      memory = no_more_reached P a b c.args.page c.requires.within c.in-Ok.ensures.memory;
      trust = g.met.T.Pages.trust a b _ c.in-Ok.ensures.outside;
      stays = c.reach.ensures.images.stays;
    }

pub returns-in-Err-clause-calls : goal.returns-in-Err-clause-calls
returns-in-Err-clause-calls g c =
    let P = g.T.Pages in
    let a = c.args.t.now in
    let b = c.reach.new.self in
    record {
      looks = looks_refused (P.step a) (P.step b) c.in-Err.refusal c.reach.ensures.images.kept c.in-Err.ensures.refused.step;
      outside = c.in-Err.ensures.outside;
      memory = no_more_reached P a b c.args.page c.requires.within c.in-Err.ensures.memory;
      trust = g.met.T.Pages.trust a b _ c.in-Err.ensures.outside;
      stays = c.reach.ensures.images.stays;
    }

pub returns-in-Err-clause-failed : goal.returns-in-Err-clause-failed
returns-in-Err-clause-failed g c =
    let refused = c.in-Err.ensures.refused in
    record {
      cause = (ap (λ (s : Step). s.refusal) refused.step, barred (g.T.Pages.step c.reach.new.self) c.args.page c.in-Err.refusal refused.cause);
      refused = refused.step;
    }
