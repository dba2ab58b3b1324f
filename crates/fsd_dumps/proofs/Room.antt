-- Behind a version of the last name there is room for no more keys than its number leaves.
use Rattle.std.proofs.Common.{◌≡◌, inl, inr, ℕ, zero, suc, ◌+◌, ◌-◌, ◌<◌, ◌≤◌, Bool, true, false, cond, ◌&&◌, List, [], ◌∷◌, length, replicate, Option, Some, refl, sym, ap, subst, ◌∙◌, arith}
use Rattle.std.specs.List.{list_all}
use Rattle.std.specs.declared.cmp.Ordering.{Ordering}
use Rattle.std.specs.declared.cmp.Ordering.TheVariants.{Less, Equal}
use Rattle.std.specs.Ordering.{nat_cmp, ordering_then, is_lt}
use Rattle.std.specs.Cmp.Lexicographic.{slice_cmp, nat_list_cmp_total}
use Rattle.std.proofs.lemmas.Cmp.{ranked, by_ranked, tied_itself}
use Rattle.std.proofs.lemmas.Bool.{and_parts, leb-true}
use Rattle.fsd_bytes.specs.Bytes.{same_bytes}
use Rattle.fsd_bytes.specs.Names.{is_name, is_name_byte, is_between, max_name_len}
use Rattle.fsd_bytes.specs.declared.key.Key.{Key}
use Rattle.fsd_bytes.specs.Keys.{key_lt, max_u32}
use Rattle.fsd_bytes.proofs.SameLaws.{same_is}
use Rattle.fsd_dumps.specs.Dump.{Dumped, is_dumped, is_behind, are_behind}
use Rattle.fsd_dumps.specs.Front.{last_byte, last_name, most_version}
use Rattle.fsd_dumps.proofs.Items.{IsFit, fit_of}
use Rattle.fsd_dumps.proofs.Names.{IsUpTo, byte_order, to_last}
use Rattle.fsd_dumps.proofs.Begins.{keys_total, lt_then, lt_by_name}

-- no name is greater than the last one
pub name_to_last : (name : List ℕ) (m : ℕ) → list_all is_name_byte name ≡ true → length name ≤ m → IsUpTo name (replicate m last_byte) []
name_to_last [] zero all le = inl refl
name_to_last [] (suc m) all le = inr (refl, refl)
name_to_last (b ∷ name) zero all le = absurd (omega (arith, le))
name_to_last (b ∷ name) (suc m) all le =
    let parts = and_parts (is_name_byte b) (list_all is_name_byte name) all in
    byte_order b name (replicate m last_byte) (to_last b parts.0) (name_to_last name m parts.1 (omega (arith, le)))

pub to_last_name : (name : List ℕ) → is_name name ≡ true → IsUpTo name last_name []
to_last_name name h =
    let parts = and_parts (is_between 1 max_name_len (length name)) (list_all is_name_byte name) h in
    let most = and_parts _ _ parts.0 in
    name_to_last name max_name_len parts.1 (leb-true (length name) max_name_len most.1)

versions_ascend : (a b : Key) → a.name ≡ b.name → key_lt a b ≡ true → a.version < b.version
versions_ascend a b same lt =
    let tied : slice_cmp nat_cmp a.name b.name ≡ Equal = ap (slice_cmp nat_cmp a.name) (sym same) ∙ tied_itself nat_list_cmp_total a.name in
    let by_version = ap (λ (o : Ordering). is_lt (ordering_then o (nat_cmp a.version b.version))) tied in
    by_ranked (a.version < b.version) (a.version ≡ b.version) (b.version < a.version) (nat_cmp a.version b.version) (ranked a.version b.version (nat_cmp a.version b.version) refl)
    (λ is h. h)
    (λ is h. absurd (let bad : false ≡ true = sym (ap is_lt is) ∙ sym by_version ∙ lt in cc))
    (λ is h. absurd (let bad : false ≡ true = sym (ap is_lt is) ∙ sym by_version ∙ lt in cc))

never_itself : (a : Key) → key_lt a a ≡ true → ⊥
never_itself a lt = let bad : false ≡ true = sym (ap is_lt (tied_itself keys_total a)) ∙ lt in absurd cc

pub record BehindParts (last : Option Key) (x : Dumped) (items : List Dumped) : Type 0 where
  pub fit : IsFit x
  pub behind_last : is_behind last x.key ≡ true
  pub others : are_behind (Some x.key) items ≡ true

pub behind_parts : (last : Option Key) (x : Dumped) (items : List Dumped) → are_behind last (x ∷ items) ≡ true → BehindParts last x items
behind_parts last x items h =
    let a = and_parts (is_dumped x && is_behind last x.key) (are_behind (Some x.key) items) h in
    let b = and_parts (is_dumped x) (is_behind last x.key) a.0 in
    record { fit = fit_of x b.0; behind_last = b.1; others = a.1 }

room : (k : Key) (items : List Dumped) → k.name ≡ last_name → k.version ≤ max_u32 → are_behind (Some k) items ≡ true → k.version + length items ≤ max_u32
room k [] named le h = omega (arith, le)
room k (x ∷ items) named le h =
    let parts = behind_parts (Some k) x items h in
    elim (to_last_name x.key.name parts.fit.name) [
      | inl same ↦ omega (arith, versions_ascend k x.key (named ∙ sym same) parts.behind_last, room x.key items same parts.fit.most parts.others)
      | inr less ↦ absurd (never_itself x.key (lt_then x.key k x.key (lt_by_name x.key.name k.name x.key.version k.version (subst (λ (xs : List ℕ). slice_cmp nat_cmp x.key.name xs ≡ Less) (sym named) less.0)) parts.behind_last))
    ]

pub room_behind : (x : Dumped) (items : List Dumped) → IsFit x → are_behind (Some x.key) items ≡ true → x.key.version ≤ most_version (length items) x.key.name
room_behind x items fit h = by (same_bytes x.key.name last_name) refl
  where
    by : (b : Bool) → same_bytes x.key.name last_name ≡ b → x.key.version ≤ max_u32 - cond b (length items) 0
    by true same = omega (arith, room x.key items (same_is x.key.name last_name same) fit.most h)
    by false same = omega (arith, fit.most)
