-- Dumps in parts: no version is left out between two parts, and none is in both.
use Rattle.std.proofs.Common.{◌≡◌, ℕ, suc, Bool, true, false, true≢false, cond, ◌&&◌, ◌||◌, List, [], ◌∷◌, length, map, filter, Option, Some, None, Result, Ok, Err, refl, sym, subst, ap, ◌∙◌, arith, All, Contains}
use Rattle.std.specs.Prelude.{nat_lt, if◌then◌else◌, ◌==◌}
use Rattle.std.specs.Cmp.{IsStrictWeakOrder}
use Rattle.std.specs.List.{AllByRecursion, fold}
use Rattle.std.proofs.lemmas.Bool.{and_parts, both_ways, false_from_ne_true, ltb-true}
use Rattle.std.proofs.lemmas.List.Elements.{All-contains, All-contains_itself, All-from_recursion, All-weaker, filter_passes, recursion_from_All}
use Rattle.fsd_bytes.specs.declared.key.Serial.{Serial}
use Rattle.fsd_formats.specs.declared.entry.Entry.{Entry}
use Rattle.fsd_runs.specs.declared.span.Span.{Span}
use Rattle.fsd_runs.specs.declared.span.Weight.{Weight}
use Rattle.fsd_runs.specs.Dumps.{all_since, chosen, earlier_of, earliest, first_over, first_serial, is_before, is_in_span, latest_of, least_length, length_up_to, made_before, serial_lt, serials_of, span_of, weight_of, weights_since}
use Rattle.fsd_runs.proofs.SerialLaws.{best_is, lt_ties, lt_through, serials_order}
use Rattle.fsd_runs.proofs.SpanLaws.{kept, passed}
use Rattle.fsd_history.specs.History.{AreParts, next_since}

-- ---- behind the start, in front of the end, behind the head

each_by : (a b c : Bool) → (b ≡ true → c ≡ false) → (a ≡ true → b ≡ false → c ≡ true) → (a ≡ false → b ≡ true) → (a && true) ≡ ((a && b) || (c && true))
each_by true true c front on all = refl
each_by true false c front on all = sym (ap (λ (t : Bool). t && true) (on refl refl))
each_by false b c front on all = sym (ap (λ (t : Bool). t && true) (front (all refl)))

once_by : (a b c : Bool) → (b ≡ true → c ≡ false) → ((a && b) && (c && true)) ≡ false
once_by false b c front = refl
once_by true false c front = refl
once_by true true c front = ap (λ (t : Bool). t && true) (front refl)

-- how many spans have it: the first one, or those behind its head
count_by : (span : Span) (more : List Span) (a b c : Bool) → a ≡ (b || c) → (b && c) ≡ false → length more ≡ (if c then 1 else 0) → length (cond b (span ∷ more) more) ≡ (if a then 1 else 0)
count_by span more a true true each once counts = absurd (true≢false once)
count_by span more a true false each once counts = ap (λ (n : ℕ). suc n) counts ∙ sym (ap (λ (t : Bool). if t then 1 else 0) each)
count_by span more a false c each once counts = counts ∙ sym (ap (λ (t : Bool). if t then 1 else 0) each)

-- ---- elements

-- what is so of the values is so of the map
of_map : {X Y : Type 0} (f : X → Y) (P : Y → Type 0) (xs : List X) → AllByRecursion (λ x. P (f x)) xs → AllByRecursion P (map f xs)
of_map f P [] all = tt
of_map f P (x ∷ xs) all = (all.0, of_map f P xs all.1)

-- what is in a map is that of an element
mapped : {X Y : Type 0} (f : X → Y) (xs : List X) (y : Y) → Contains (map f xs) y → (x : X) × Contains xs x × (f x ≡ y)
mapped {X = X} {Y = Y} f xs y there =
    let own = All-weaker (Contains xs) (λ x. IsOf (f x)) (λ x is. (x, is, refl)) xs (All-contains_itself xs) in
    All-contains IsOf (map f xs) y (All-from_recursion IsOf (map f xs) (of_map f IsOf xs (recursion_from_All (λ x. IsOf (f x)) xs own))) there
  where
    IsOf : Y → Type 0
    IsOf z = (x : X) × Contains xs x × (f x ≡ z)

-- ---- serials

abbrev latest_first : Serial → Serial → Bool
latest_first a b = serial_lt b a

by_latest : IsStrictWeakOrder latest_first
by_latest = record {
  one_way = λ a b is. serials_order.one_way b a is;
  chain = λ a b c first second. serials_order.chain c b a second first;
}

none_under : (n : ℕ) → nat_lt n 0 ≡ false
none_under n = false_from_ne_true (nat_lt n 0) (λ is. let low = ltb-true n 0 is in omega (arith, low))

-- no serial is in front of the first one
first_is : (s : Serial) → serial_lt s first_serial ≡ false
first_is s = or_none (nat_lt s.epoch 0) ((s.epoch == 0) && nat_lt s.count 0) (none_under s.epoch) (and_none (s.epoch == 0) (nat_lt s.count 0) (none_under s.count))
  where
    and_none : (x y : Bool) → y ≡ false → (x && y) ≡ false
    and_none true y is = is
    and_none false y is = refl

    or_none : (x y : Bool) → x ≡ false → y ≡ false → (x || y) ≡ false
    or_none true y first second = first
    or_none false y first second = second

-- one that is behind this is behind each that is not
lt_past : (a b c : Serial) → serial_lt a c ≡ true → serial_lt a b ≡ false → serial_lt b c ≡ true
lt_past a b c is not_behind = by (serial_lt b c) refl
  where
    by : (t : Bool) → serial_lt b c ≡ t → serial_lt b c ≡ true
    by true before = before
    by false never = absurd (true≢false (sym is ∙ serials_order.chain a b c not_behind never))

-- the least of these is one of them, and none comes before it
earliest_there : (serials : List Serial) (s : Serial) → earliest serials ≡ Some s → Contains serials s × All (λ t. serial_lt t s ≡ false) serials
earliest_there [] s is = absurd cc
earliest_there (a ∷ serials) s is =
    let same : fold earlier_of a serials ≡ s = cc in
    subst (λ (t : Serial). Contains (a ∷ serials) t × All (λ u. serial_lt u t ≡ false) (a ∷ serials)) same (best_is serial_lt serials_order a serials)

-- ---- of a span whose end is behind its start

module _ (since : Serial) (before : Option Serial) (behind : (b : Serial) → before ≡ Some b → serial_lt since b ≡ true) (entries : List Entry) where
  abbrev front : List Entry
  front = made_before before entries

  abbrev head : Serial
  head = latest_of front

  abbrev serials : List Serial
  serials = first_serial ∷ map (λ e. e.serial) front

  -- the head is one of those, and none of them is behind it
  top : Contains serials head × All (λ t. serial_lt head t ≡ false) serials
  top = best_is latest_first by_latest first_serial (map (λ e. e.serial) front)

  -- none in front of the end is behind the head
  not_behind : (e : Entry) → Contains entries e → is_before before e.serial ≡ true → serial_lt head e.serial ≡ false
  not_behind e there is =
      let all = (recursion_from_All (λ t. serial_lt head t ≡ false) serials top.1).1 in
      All-contains (λ x. serial_lt head x.serial ≡ false) front e (All-from_recursion (λ x. serial_lt head x.serial ≡ false) front (map_of front all)) (kept (λ x. is_before before x.serial) entries e there is)
    where
      map_of : (xs : List Entry) → AllByRecursion (λ t. serial_lt head t ≡ false) (map (λ e. e.serial) xs) → AllByRecursion (λ x. serial_lt head x.serial ≡ false) xs
      map_of [] all = tt
      map_of (x ∷ xs) all = (all.0, map_of xs all.1)

  -- one that is not in front of it is behind the head, if it is behind the start
  on_behind : (e : Entry) → serial_lt since e.serial ≡ true → is_before before e.serial ≡ false → serial_lt head e.serial ≡ true
  on_behind e late is =
      let first = lt_past since first_serial e.serial late (first_is since) in
      let more = All-weaker (λ x. is_before before x.serial ≡ true) (λ x. P x.serial) (λ x passes. under before x is passes) front (filter_passes (λ x. is_before before x.serial) entries) in
      All-contains P serials head (All-from_recursion P serials (first, of_map (λ x. x.serial) P front (recursion_from_All (λ x. P x.serial) front more))) top.0
    where
      P : Serial → Type 0
      P t = serial_lt t e.serial ≡ true

      under : (end : Option Serial) (x : Entry) → is_before end e.serial ≡ false → is_before end x.serial ≡ true → P x.serial
      under None x never passes = absurd (true≢false never)
      under (Some b) x never passes = lt_through x.serial b e.serial passes never

  -- one that is not behind the start is in front of the end
  all_in_front : (e : Entry) → serial_lt since e.serial ≡ false → is_before before e.serial ≡ true
  all_in_front e early = by before behind
    where
      by : (end : Option Serial) → ((b : Serial) → end ≡ Some b → serial_lt since b ≡ true) → is_before end e.serial ≡ true
      by None ends = refl
      by (Some b) ends = in_front (serial_lt e.serial b) refl
        where
          in_front : (t : Bool) → serial_lt e.serial b ≡ t → serial_lt e.serial b ≡ true
          in_front true is = is
          in_front false is = absurd (true≢false (sym (lt_through since b e.serial (ends b refl) is) ∙ early))

  -- so each behind the start, and no other, is in the span or behind the head
  each_there : (e : Entry) → Contains entries e → is_in_span (all_since since) e.serial ≡ (is_in_span (record { since = since; before = before }) e.serial || is_in_span (all_since head) e.serial)
  each_there e there = each_by (serial_lt since e.serial) (is_before before e.serial) (serial_lt head e.serial) (not_behind e there) (on_behind e) (all_in_front e)

  -- and none is both
  once_there : (e : Entry) → Contains entries e → (is_in_span (record { since = since; before = before }) e.serial && is_in_span (all_since head) e.serial) ≡ false
  once_there e there = once_by (serial_lt since e.serial) (is_before before e.serial) (serial_lt head e.serial) (not_behind e there)

-- ---- of a span of so many bytes

module _ (since : Serial) (most : ℕ) (entries : List Entry) where
  abbrev weights : List Weight
  weights = weights_since since entries

  abbrev all : List Entry
  all = chosen (all_since since) entries

  abbrev made : Span
  made = record { since = since; before = first_over most weights }

  abbrev is_over : Serial → Bool
  is_over s = nat_lt most (length_up_to weights (Some s))

  -- it is not refused, and has this end
  is_made : (span : Span) → span_of since (Some most) entries ≡ Ok span → (nat_lt most (least_length weights) ≡ false) × (made ≡ span)
  is_made span is = by (nat_lt most (least_length weights)) refl is
    where
      by : (b : Bool) → nat_lt most (least_length weights) ≡ b → ◌≡◌ {A = Result Span ℕ} (if b then Err (least_length weights) else Ok made) (Ok span) → (nat_lt most (least_length weights) ≡ false) × (made ≡ span)
      by true over is = absurd cc
      by false under is = (under, cc)

  -- a serial of these is that of a version behind the start
  version_of : (s : Serial) → Contains (serials_of weights) s → (e : Entry) × Contains entries e × (serial_lt since e.serial ≡ true) × (e.serial ≡ s)
  version_of s there =
      let one = mapped (λ (w : Weight). w.serial) weights s there in
      let two = mapped weight_of all one.0 one.1 in
      let is = passed (λ e. is_in_span (all_since since) e.serial) entries two.0 two.1 in
      (two.0, is.0, (and_parts (serial_lt since two.0.serial) true is.1).0, ap (λ (w : Weight). w.serial) two.2 ∙ one.2)

  -- the end is behind the start
  ends_behind : (b : Serial) → first_over most weights ≡ Some b → serial_lt since b ≡ true
  ends_behind b is =
      let first = earliest_there (filter is_over (serials_of weights)) b is in
      let one = version_of b (passed is_over (serials_of weights) b first.0).0 in
      subst (λ (s : Serial). serial_lt since s ≡ true) one.3 one.2

  pub part_has_each : (span : Span) → span_of since (Some most) entries ≡ Ok span → (e : Entry) → Contains entries e → is_in_span (all_since since) e.serial ≡ (is_in_span span e.serial || is_in_span (all_since (next_since span entries)) e.serial)
  part_has_each span is e there =
      subst (λ (x : Span). is_in_span (all_since since) e.serial ≡ (is_in_span x e.serial || is_in_span (all_since (next_since x entries)) e.serial)) (is_made span is).1
      (each_there since (first_over most weights) ends_behind entries e there)

  pub part_has_once : (span : Span) → span_of since (Some most) entries ≡ Ok span → (e : Entry) → Contains entries e → (is_in_span span e.serial && is_in_span (all_since (next_since span entries)) e.serial) ≡ false
  part_has_once span is e there =
      subst (λ (x : Span). (is_in_span x e.serial && is_in_span (all_since (next_since x entries)) e.serial) ≡ false) (is_made span is).1
      (once_there since (first_over most weights) ends_behind entries e there)

  -- ---- a part that has a version

  -- the least serial is in front of the first one that is over
  least_front : (s : Serial) → All (λ t. serial_lt t s ≡ false) (serials_of weights) → is_over s ≡ false → is_before (first_over most weights) s ≡ true
  least_front s least under = by (first_over most weights) refl
    where
      by : (end : Option Serial) → first_over most weights ≡ end → is_before end s ≡ true
      by None is = refl
      by (Some b) is = in_front (serial_lt s b) refl
        where
          in_front : (t : Bool) → serial_lt s b ≡ t → serial_lt s b ≡ true
          in_front true before = before
          in_front false never =
              let first = passed is_over (serials_of weights) b (earliest_there (filter is_over (serials_of weights)) b is).0 in
              absurd (both_ways (is_over s) under (ap is_over (lt_ties s b never (All-contains (λ t. serial_lt t s ≡ false) (serials_of weights) b least first.0)) ∙ first.1))

  -- so a part has one where any is behind the start
  pub part_has_one : (span : Span) → span_of since (Some most) entries ≡ Ok span → chosen span entries ≡ [] → all ≡ []
  part_has_one span is none = by (earliest (serials_of weights)) refl
    where
      no_serials : (xs : List Entry) → earliest (serials_of (map weight_of xs)) ≡ None → xs ≡ []
      no_serials [] never = refl
      no_serials (x ∷ xs) never = absurd cc

      by : (least : Option Serial) → earliest (serials_of weights) ≡ least → all ≡ []
      by None never = no_serials all never
      by (Some s) least =
          let whole = is_made span is in
          let first = earliest_there (serials_of weights) s least in
          let under = ap (λ (o : Option Serial). nat_lt most (length_up_to weights o)) (sym least) ∙ whole.0 in
          let one = version_of s first.0 in
          let front = subst (λ (t : Serial). is_before (first_over most weights) t ≡ true) (sym one.3) (least_front s first.1 under) in
          let within : is_in_span made one.0.serial ≡ true = ap (λ (t : Bool). t && is_before (first_over most weights) one.0.serial) one.2 ∙ front in
          let there = kept (λ e. is_in_span made e.serial) entries one.0 one.1 within in
          let nothing = subst (λ (es : List Entry). Contains es one.0) (ap (λ (x : Span). chosen x entries) whole.1 ∙ none) there in
          absurd (omega (arith, nothing.1))

-- ---- of all parts

not_there : (p : Entry → Bool) (entries : List Entry) (e : Entry) → Contains entries e → filter p entries ≡ [] → p e ≡ false
not_there p entries e there none = false_from_ne_true (p e) (λ passes. let nothing = subst (λ (es : List Entry). Contains es e) none (kept p entries e there passes) in omega (arith, nothing.1))

pub parts_have_once : (since : Serial) (most : ℕ) (entries : List Entry) (spans : List Span) → AreParts since most entries spans → (e : Entry) → Contains entries e
    → length (filter (λ span. is_in_span span e.serial) spans) ≡ (if is_in_span (all_since since) e.serial then 1 else 0)
parts_have_once since most entries [] none e there = sym (ap (λ (t : Bool). if t then 1 else 0) (not_there (λ x. is_in_span (all_since since) x.serial) entries e there none))
parts_have_once since most entries (span ∷ spans) parts e there =
    let head = next_since span entries in
    count_by span (filter (λ x. is_in_span x e.serial) spans) (is_in_span (all_since since) e.serial) (is_in_span span e.serial) (is_in_span (all_since head) e.serial)
    (part_has_each since most entries span parts.0 e there)
    (part_has_once since most entries span parts.0 e there)
    (parts_have_once head most entries spans parts.1 e there)
