use Rattle.std.proofs.Common.{◌≡◌, ◌≢◌, ◌<◌, ◌∙◌, ℕ, Option, List, Some, true, nat_eq, is_some, option_map, sym, ap, subst, arith, IsSome}
use Rattle.std.specs.Prelude.{slice_get, slice_set, slice_index_or, option_and_then}
use Rattle.std.specs.Map.{lookup}
use Rattle.fsd_formats.specs.NamePage.{read_page}
use Rattle.page_cache.specs.declared.cache.Slot.{Slot}
use Rattle.page_cache.specs.declared.cache.Cache.TheInside.{Inside}
use Rattle.page_cache.specs.Accepted.{cached_content}
use Rattle.page_cache.specs.Cache.{CacheValue, Held, IsResident}
use Rattle.page_cache.specs.Inside.{slot_shown, value_of, IsInside}
use Rattle.page_cache.proofs.AcceptedLaws.{marked_accepted, read_tells}
use Rattle.page_cache.proofs.ShownLaws.{order_has, held_is, frame_in_pool, frame_below, bytes_shown}
use Rattle.page_cache.proofs.cache.Cache.is_accepted.Goals as goal

module _ (i : Inside) (h : IsInside i) (page pages : ℕ) (slot : Slot) (is : lookup (nat_eq page) i.order.entries ≡ Some slot) where
  abbrev mark : ℕ
  mark = slice_index_or i.accepted slot.frame 0

  -- what is marked is accepted
  known : (v : CacheValue) → value_of i ≡ v → 0 < pages → mark ≡ pages → true ≡ is_some (cached_content v pages page)
  known v view some at =
      let x = slot_shown i.pool slot in
      let on = held_is i.pool page i.order.entries slot is in
      let accepts = subst (λ (k : ℕ). true ≡ is_some (read_page page k x.bytes)) at (sym (h.accepted page x on (subst (λ (k : ℕ). 0 < k) (sym at) some))) in
      subst (λ (w : CacheValue). true ≡ is_some (cached_content w pages page)) view
      (accepts ∙ ap (λ (o : Option (List ℕ)). is_some (option_and_then (read_page page pages) o)) (sym (ap (option_map (λ (y : Held). y.bytes)) on)))

  -- what the bytes of its frame have is what the cache has of the page
  read : (v : CacheValue) → value_of i ≡ v → (bytes : List ℕ) → slice_get i.pool slot.frame ≡ Some bytes → is_some (read_page page pages bytes) ≡ is_some (cached_content v pages page)
  read v view bytes at = subst (λ (w : CacheValue). is_some (read_page page pages bytes) ≡ is_some (cached_content w pages page)) view
      (ap (λ (o : Option (List ℕ)). is_some (option_and_then (read_page page pages) o)) (sym (bytes_shown i page slot bytes is at)))

  -- a page that is read and accepted is marked
  marked : (bytes : List ℕ) → slice_get i.pool slot.frame ≡ Some bytes → true ≡ is_some (read_page page pages bytes) → IsInside (record i { accepted = slice_set i.accepted slot.frame pages })
  marked bytes at accepts =
      let x = slot_shown i.pool slot in
      let same : Some x.bytes ≡ Some bytes = sym (ap (option_map (λ (y : Held). y.bytes)) (held_is i.pool page i.order.entries slot is)) ∙ bytes_shown i page slot bytes is at in
      let one : x.bytes ≡ bytes = cc in
      record {
        whole = h.whole;
        room = h.room;
        few = h.few;
        accepted = marked_accepted i.accepted (value_of i) h.whole h.accepted page pages x (held_is i.pool page i.order.entries slot is)
            (subst (λ (b : List ℕ). IsSome (read_page page pages b)) (sym one) (sym accepts));
      }

positive : (n : ℕ) → n ≢ 0 → 0 < n
positive n some = omega (arith, some)

pub slot_of-frame-requires : goal.slot_of-frame-requires
slot_of-frame-requires c = order_has c.self.inside.pool c.args.page c.self.inside.order.entries (subst (λ (v : CacheValue). IsResident v c.args.page) (sym c.self.view_is) c.requires)

pub bounds-self-inside-frame : goal.bounds-self-inside-frame
bounds-self-inside-frame c = frame_below c.self.inside c.self.invariant c.args.page c.slot_of-frame.result c.slot_of-frame.ensures

pub offset_bounds-self-inside-frame : goal.offset_bounds-self-inside-frame
offset_bounds-self-inside-frame c = let lt = frame_below c.self.inside c.self.invariant c.args.page c.slot_of-frame.result c.slot_of-frame.ensures in omega (arith, lt)

pub get-requires : goal.get-requires
get-requires c = frame_in_pool c.self.inside c.self.invariant c.args.page c.slot_of-frame.result c.slot_of-frame.ensures

pub bounds-self-inside-frame-then-accepted : goal.bounds-self-inside-frame-then-accepted
bounds-self-inside-frame-then-accepted c = frame_below c.self.inside c.self.invariant c.args.page c.slot_of-frame.result c.slot_of-frame.ensures

pub offset_bounds-self-inside-frame-then-accepted : goal.offset_bounds-self-inside-frame-then-accepted
offset_bounds-self-inside-frame-then-accepted c = let lt = frame_below c.self.inside c.self.invariant c.args.page c.slot_of-frame.result c.slot_of-frame.ensures in omega (arith, lt)

pub returns-then-self-frame-clause-accepted : goal.returns-then-self-frame-clause-accepted
returns-then-self-frame-clause-accepted c =
    known c.self.inside c.self.invariant c.args.page c.args.pages c.slot_of-frame.result c.slot_of-frame.ensures c.args.self.now c.self.view_is
    (positive c.args.pages c.if-pages-ne0.true) c.if-self-frame.true

pub invariant_of-self : goal.invariant_of-self
invariant_of-self c = marked c.self.inside c.self.invariant c.args.page c.args.pages c.slot_of-frame.result c.slot_of-frame.ensures c.get.result.now c.get.ensures
    (sym c.if-accepted.true ∙ c.is_ok-accepted.ensures.value ∙ read_tells c.args.page c.args.pages c.get.result.now c.read_page.result c.read_page.ensures.accepted c.read_page.ensures.refused)

pub returns-then-accepted-clause-accepted : goal.returns-then-accepted-clause-accepted
returns-then-accepted-clause-accepted c =
    c.is_ok-accepted.ensures.value ∙ read_tells c.args.page c.args.pages c.get.result.now c.read_page.result c.read_page.ensures.accepted c.read_page.ensures.refused
    ∙ read c.self.inside c.self.invariant c.args.page c.args.pages c.slot_of-frame.result c.slot_of-frame.ensures c.args.self.now c.self.view_is c.get.result.now c.get.ensures

pub returns-else-accepted-clause-accepted : goal.returns-else-accepted-clause-accepted
returns-else-accepted-clause-accepted c =
    c.is_ok-accepted.ensures.value ∙ read_tells c.args.page c.args.pages c.get.result.now c.read_page.result c.read_page.ensures.accepted c.read_page.ensures.refused
    ∙ read c.self.inside c.self.invariant c.args.page c.args.pages c.slot_of-frame.result c.slot_of-frame.ensures c.args.self.now c.self.view_is c.get.result.now c.get.ensures
