-- Leaders and data of versions whose sectors are apart.
use Rattle.std.proofs.Common.{◌≡◌, inl, inr, ℕ, ◌+◌, ◌<◌, Bool, true, false, ◌||◌, List, [], ◌∷◌, ◌++◌, take, drop, map, refl, sym, ap, ◌∙◌, subst, arith}
use Rattle.std.proofs.Math.Bool.{or-true}
use Rattle.std.specs.Prelude.{◌==◌, IsTrue, IsFalse}
use Rattle.std.specs.List.{AllByRecursion, flat_map, list_all}
use Rattle.std.proofs.lemmas.Bool.{and_parts, both_ways, or_cases, or_parts, or_from, false_from_ne_true}
use Rattle.volume_layout.specs.declared.layout.Layout.{Layout}
use Rattle.volume_layout.specs.Layout.{is_data}
use Rattle.fsd_bytes.specs.declared.key.Key.{Key}
use Rattle.run_table.specs.declared.run.Run.{Run}
use Rattle.run_table.specs.RunTable.{sectors_of}
use Rattle.run_table.specs.Space.{all_differ, contains}
use Rattle.run_table.proofs.SectorLaws.{all_in, contains-append, first_there, rest_there}
use Rattle.fsd_formats.specs.declared.entry.Entry.{Entry}
use Rattle.fsd_files.specs.Kept.{data_sectors}
use Rattle.fsd_files.specs.Scrub.{all_data, data_of}
use Rattle.fsd_files.specs.Space.{Apart}
use Rattle.fsd_files.specs.Volume.{is_in, plans_of}
use Rattle.fsd_files.specs.Waiting.{is_leader}
use Rattle.fsd_files.proofs.CountLaws.{occurs, used, used-cons, contains_occurs, differ_occurs}
use Rattle.fsd_files.proofs.KeptLaws.{behind_there}

-- ---- how often a sector is a leader, and one of data

led : ℕ → List Entry → ℕ
led s [] = 0
led s (e ∷ entries) = occurs s (take 1 (sectors_of e.runs)) + led s entries

inner : ℕ → List Entry → ℕ
inner s [] = 0
inner s (e ∷ entries) = occurs s (drop 1 (sectors_of e.runs)) + inner s entries

split : (s : ℕ) (xs : List ℕ) → occurs s xs ≡ occurs s (take 1 xs) + occurs s (drop 1 xs)
split s [] = omega arith
split s (x ∷ xs) = omega arith

used_split : (s : ℕ) (entries : List Entry) → used s (plans_of entries) ≡ led s entries + inner s entries
unfolding led inner
used_split s [] = omega arith
used_split s (e ∷ entries) = omega (arith, used-cons s e.runs (plans_of entries), split s (sectors_of e.runs), used_split s entries)

leader_led : (s : ℕ) (entries : List Entry) → IsTrue (is_leader entries s) → 0 < led s entries
unfolding led
leader_led s [] is = absurd (cc is)
leader_led s (e ∷ entries) is = elim (or_cases (contains (take 1 (sectors_of e.runs)) s) (is_leader entries s) is) [
  | inl here ↦ omega (arith, contains_occurs s (take 1 (sectors_of e.runs)) here)
  | inr more ↦ omega (arith, leader_led s entries more)
]

inner_there : (front : List Entry) (e : Entry) (more : List Entry) (s : ℕ) → IsTrue (contains (data_sectors e.runs) s) → 0 < inner s (front ++ e ∷ more)
unfolding inner
inner_there [] e more s is = omega (arith, contains_occurs s (drop 1 (sectors_of e.runs)) is)
inner_there (f ∷ front) e more s is = omega (arith, inner_there front e more s is)

used_at : (front : List Entry) (e : Entry) (more : List Entry) (s : ℕ) → used s (plans_of (front ++ e ∷ more)) ≡ used s (plans_of front) + (occurs s (sectors_of e.runs) + used s (plans_of more))
used_at [] e more s = omega (arith, used-cons s e.runs (plans_of more))
used_at (f ∷ front) e more s = omega (arith, used-cons s f.runs (plans_of (front ++ e ∷ more)), used-cons s f.runs (plans_of front), used_at front e more s)

-- ---- what is apart

differ_of : (l : Layout) (plans : List (List Run)) → Apart l plans → all_differ (flat_map sectors_of plans) ≡ true
differ_of l plans apart = (and_parts (all_differ (flat_map sectors_of plans)) (list_all (is_data l) (flat_map sectors_of plans)) apart).0

pub in_area : (l : Layout) (plans : List (List Run)) → Apart l plans → (s : ℕ) → IsTrue (contains (flat_map sectors_of plans) s) → IsTrue (is_data l s)
in_area l plans apart s is = all_in (is_data l) (flat_map sectors_of plans) s (and_parts (all_differ (flat_map sectors_of plans)) (list_all (is_data l) (flat_map sectors_of plans)) apart).1 is

-- no data sector is a leader
data_not_leader : (l : Layout) (entries : List Entry) → Apart l (plans_of entries) → (s : ℕ) → 0 < inner s entries → IsFalse (is_leader entries s)
data_not_leader l entries apart s lt = false_from_ne_true (is_leader entries s) (λ is.
    absurd (let once = differ_occurs (flat_map sectors_of (plans_of entries)) (differ_of l (plans_of entries) apart) s in
    let sum = used_split s entries in let some = leader_led s entries is in omega (arith, once, sum, some, lt)))

-- no sector of a version is a leader of others
pub front_not_leader : (l : Layout) (front : List Entry) (e : Entry) (more : List Entry) → Apart l (plans_of (front ++ e ∷ more)) → (s : ℕ) → IsTrue (contains (sectors_of e.runs) s) → IsFalse (is_leader front s)
front_not_leader l front e more apart s there = false_from_ne_true (is_leader front s) (λ is.
    absurd (let once = differ_occurs (flat_map sectors_of (plans_of (front ++ e ∷ more))) (differ_of l (plans_of (front ++ e ∷ more)) apart) s in
    let sum = used_at front e more s in let of_front = used_split s front in let some = leader_led s front is in let here = contains_occurs s (sectors_of e.runs) there in omega (arith, once, sum, of_front, some, here)))

plan_there : (front : List Entry) (e : Entry) (more : List Entry) (s : ℕ) → IsTrue (contains (sectors_of e.runs) s) → IsTrue (contains (flat_map sectors_of (plans_of (front ++ e ∷ more))) s)
plan_there [] e more s is = contains-append (sectors_of e.runs) (flat_map sectors_of (plans_of more)) s ∙ ap (λ (b : Bool). b || contains (flat_map sectors_of (plans_of more)) s) is
plan_there (f ∷ front) e more s is =
    contains-append (sectors_of f.runs) (flat_map sectors_of (plans_of (front ++ e ∷ more))) s
    ∙ ap (λ (b : Bool). contains (sectors_of f.runs) s || b) (plan_there front e more s is)
    ∙ or-true (contains (sectors_of f.runs) s)

-- ---- all data

all_append : {A : Type 0} (P : A → Type 0) (xs ys : List A) → AllByRecursion P xs → AllByRecursion P ys → AllByRecursion P (xs ++ ys)
all_append P [] ys first second = second
all_append P (x ∷ xs) ys first second = (first.0, all_append P xs ys first.1 second)

pub all_keyed : (P : ℕ → Type 0) (key : Key) (ss : List ℕ) → ((s : ℕ) → IsTrue (contains ss s) → P s) → AllByRecursion {X = Key × ℕ} (λ x. P x.1) (map (λ s. (key, s)) ss)
all_keyed P key [] each = tt
all_keyed P key (s ∷ ss) each = (each s (first_there s ss), all_keyed P key ss (λ t is. each t (rest_there s t ss is)))

-- a data sector of a version, and no leader of any
abbrev pub IsInner : Layout → List Entry → ℕ → Type 0
IsInner l entries s = IsTrue (is_data l s) × IsFalse (is_leader entries s)

pub data_apart : (l : Layout) (entries : List Entry) → Apart l (plans_of entries) → AllByRecursion (λ x. IsInner l entries x.1) (all_data entries)
data_apart l entries apart = each [] entries refl
  where
    each : (front rest : List Entry) → entries ≡ front ++ rest → AllByRecursion (λ x. IsInner l entries x.1) (all_data rest)
    each front [] is = tt
    each front (e ∷ more) is =
        all_append (λ x. IsInner l entries x.1) (data_of e) (all_data more)
        (all_keyed (IsInner l entries) e.key (data_sectors e.runs) (λ s there. (
          in_area l (plans_of entries) apart s (subst (λ (es : List Entry). IsTrue (contains (flat_map sectors_of (plans_of es)) s)) (sym is) (plan_there front e more s (behind_there s (sectors_of e.runs) there))),
          data_not_leader l entries apart s (subst (λ (es : List Entry). 0 < inner s es) (sym is) (inner_there front e more s there)),
        )))
        (each (front ++ e ∷ []) more (is ∙ one front e more))
      where
        one : (front : List Entry) (e : Entry) (more : List Entry) → front ++ (e ∷ more) ≡ (front ++ e ∷ []) ++ more
        one [] e more = refl
        one (f ∷ front) e more = ap (λ (x : List Entry). f ∷ x) (one front e more)

-- ---- leaders

pub front_fewer : (front rest : List Entry) (s : ℕ) → IsFalse (is_leader (front ++ rest) s) → IsFalse (is_leader front s)
front_fewer [] rest s out = refl
front_fewer (f ∷ front) rest s out =
    let parts = or_parts (contains (take 1 (sectors_of f.runs)) s) (is_leader (front ++ rest) s) out in
    or_from (contains (take 1 (sectors_of f.runs)) s) (is_leader front s) parts.0 (front_fewer front rest s parts.1)

pub rest_fewer : (front : List Entry) (e : Entry) (more : List Entry) (s : ℕ) → IsFalse (is_leader (front ++ e ∷ more) s) → IsFalse (contains (take 1 (sectors_of e.runs)) s)
rest_fewer [] e more s out = (or_parts (contains (take 1 (sectors_of e.runs)) s) (is_leader more s) out).0
rest_fewer (f ∷ front) e more s out = rest_fewer front e more s (or_parts (contains (take 1 (sectors_of f.runs)) s) (is_leader (front ++ e ∷ more) s) out).1

-- a leader lies in the data area
pub leader_in_area : (l : Layout) (entries : List Entry) → Apart l (plans_of entries) → (s : ℕ) → IsTrue (is_leader entries s) → IsTrue (is_data l s)
leader_in_area l entries apart s is = in_area l (plans_of entries) apart s (planned entries is)
  where
    front_in : (xs : List ℕ) → IsTrue (contains (take 1 xs) s) → IsTrue (contains xs s)
    front_in [] there = there
    front_in (x ∷ xs) there = elim (or_cases (x == s) false there) [ inl e ↦ ap (λ (b : Bool). b || contains xs s) e | inr never ↦ absurd (cc never) ]

    planned : (entries : List Entry) → IsTrue (is_leader entries s) → IsTrue (contains (flat_map sectors_of (plans_of entries)) s)
    planned [] is = absurd (cc is)
    planned (e ∷ entries) is = contains-append (sectors_of e.runs) (flat_map sectors_of (plans_of entries)) s ∙ elim (or_cases (contains (take 1 (sectors_of e.runs)) s) (is_leader entries s) is) [
      | inl here ↦ ap (λ (b : Bool). b || contains (flat_map sectors_of (plans_of entries)) s) (front_in (sectors_of e.runs) here)
      | inr more ↦ ap (λ (b : Bool). contains (sectors_of e.runs) s || b) (planned entries more) ∙ or-true (contains (sectors_of e.runs) s)
    ]

-- what is a leader, where it is a version's at all, is none of the data
pub data_differs : (l : Layout) (entries : List Entry) → Apart l (plans_of entries) → (s : ℕ) → (IsTrue (is_in (plans_of entries) s) → IsTrue (is_leader entries s))
    → AllByRecursion (λ e. (t : ℕ) → IsTrue (contains (data_sectors e.runs) t) → t ≡ s → ⊥) entries
data_differs l entries apart s leads = each [] entries refl
  where
    one : (front : List Entry) (e : Entry) (more : List Entry) → front ++ (e ∷ more) ≡ (front ++ e ∷ []) ++ more
    one [] e more = refl
    one (f ∷ front) e more = ap (λ (x : List Entry). f ∷ x) (one front e more)

    each : (front rest : List Entry) → entries ≡ front ++ rest → AllByRecursion (λ e. (t : ℕ) → IsTrue (contains (data_sectors e.runs) t) → t ≡ s → ⊥) rest
    each front [] is = tt
    each front (e ∷ more) is = (
      λ t there same.
          let not : IsFalse (is_leader entries t) = data_not_leader l entries apart t (subst (λ (es : List Entry). 0 < inner t es) (sym is) (inner_there front e more t there)) in
          let planned : IsTrue (is_in (plans_of entries) t) = subst (λ (es : List Entry). IsTrue (contains (flat_map sectors_of (plans_of es)) t)) (sym is) (plan_there front e more t (behind_there t (sectors_of e.runs) there)) in
          let leads_t : IsTrue (is_leader entries t) = subst (λ (x : ℕ). IsTrue (is_leader entries x)) (sym same) (leads (subst (λ (x : ℕ). IsTrue (is_in (plans_of entries) x)) same planned)) in
          both_ways (is_leader entries t) not leads_t,
      each (front ++ e ∷ []) more (is ∙ one front e more),
    )
