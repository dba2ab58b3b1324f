use Rattle.std.proofs.Common.{◌+◌, ◌≤◌, ◌≡◌, ◌<◌, ◌⊎◌, ◌∙◌, ◌++◌, ◌∷◌, [], ℕ, List, Bool, false, cond, length, lit<, sym, ap, subst, inl, inr}
use Rattle.std.specs.Prelude.{IsTrue}
use Rattle.std.proofs.lemmas.Bool.{true≢false}
use Rattle.page_cache.specs.Cache.{CacheValue, busy, IsCache, IsResident, is_among}
use Rattle.page_cache.specs.Inside.{value_of}
use Rattle.page_cache.proofs.CacheLaws.{with_dirty_cache}
use Rattle.page_cache.proofs.BusyLaws.{busy_dirtied}
use Rattle.page_cache.proofs.cache.Cache.dirty.Goals as goal

room_left : (page : ℕ) (ds : List ℕ) → IsTrue (is_among ds page) ⊎ (length ds < 96) → is_among ds page ≡ false → length ds < 96
room_left page ds (inl there) not = absurd (true≢false (sym there ∙ not))
room_left page ds (inr few) not = few

pub push-requires : goal.push-requires
push-requires c =
    let items = c.self.inside.dirty.items in
    let not : is_among items c.args.page ≡ false = ap (λ (ds : List ℕ). is_among ds c.args.page) (sym c.as_slice.ensures.value) ∙ sym c.contains.ensures.value ∙ c.if-not-contains.true in
    (lit< tt, room_left c.args.page items (subst (λ (v : CacheValue). IsTrue (is_among v.dirty c.args.page) ⊎ (length v.dirty < 96)) (sym c.self.view_is) c.requires.room) not)

pub invariant_of-self : goal.invariant_of-self
invariant_of-self c =
    let items = c.self.inside.dirty.items in
    let not : is_among items c.args.page ≡ false = ap (λ (ds : List ℕ). is_among ds c.args.page) (sym c.as_slice.ensures.value) ∙ sym c.contains.ensures.value ∙ c.if-not-contains.true in
    let few : length items < 96 = room_left c.args.page items (subst (λ (v : CacheValue). IsTrue (is_among v.dirty c.args.page) ⊎ (length v.dirty < 96)) (sym c.self.view_is) c.requires.room) not in
    let there : IsResident (value_of c.self.inside) c.args.page = subst (λ (v : CacheValue). IsResident v c.args.page) (sym c.self.view_is) c.requires.resident in
    let list : c.push.new.self.items ≡ cond (is_among items c.args.page) items (items ++ c.args.page ∷ []) = c.push.ensures.items ∙ sym (ap (λ (b : Bool). cond b items (items ++ c.args.page ∷ [])) not) in
    record {
      whole = subst (λ (ds : List ℕ). IsCache (record (value_of c.self.inside) { dirty = ds })) (sym list) (with_dirty_cache c.args.page (value_of c.self.inside) there (λ _. few) c.self.invariant.whole);
      room = c.self.invariant.room;
      few = c.self.invariant.few;
      accepted = c.self.invariant.accepted;
    }

pub returns-then-not-contains-clause-busy : goal.returns-then-not-contains-clause-busy
returns-then-not-contains-clause-busy c =
    let items = c.self.inside.dirty.items in
    let not : is_among items c.args.page ≡ false = ap (λ (ds : List ℕ). is_among ds c.args.page) (sym c.as_slice.ensures.value) ∙ sym c.contains.ensures.value ∙ c.if-not-contains.true in
    let list : c.push.new.self.items ≡ cond (is_among items c.args.page) items (items ++ c.args.page ∷ []) = c.push.ensures.items ∙ sym (ap (λ (b : Bool). cond b items (items ++ c.args.page ∷ [])) not) in
    subst (λ (v : CacheValue). busy (record (value_of c.self.inside) { dirty = c.push.new.self.items }) ≤ busy v + 1) c.self.view_is
    (subst (λ (ds : List ℕ). busy (record (value_of c.self.inside) { dirty = ds }) ≤ busy (value_of c.self.inside) + 1) (sym list) (busy_dirtied c.args.page (value_of c.self.inside) c.self.invariant.whole))
