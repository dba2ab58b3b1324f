-- Where bytes that are no dump stop to begin one.
use Rattle.std.proofs.Common.{◌≡◌, ◌⊎◌, inl, inr, ℕ, zero, suc, ◌+◌, ◌-◌, ◌<◌, ◌≤◌, Bool, true, false, cond, ◌&&◌, List, [], ◌∷◌, ◌++◌, length, take, drop, get_or, Option, Some, None, Ok, Err, refl, sym, ap, subst, ◌∙◌, arith, append_assoc, length-append, codes}
use Rattle.std.specs.Prelude.{not, nat_le, nat_lt}
use Rattle.std.specs.List.{flat_map}
use Rattle.std.proofs.lemmas.Bool.{and_parts, and_from, cases_lt, leb-true, le-leb, ltb-true, ltb-false}
use Rattle.std.proofs.lemmas.List.{append-nil, take_all, take-append-drop, take-take, drop-drop, length-take-le, length-take, length-drop, nil_from_length}
use Rattle.fsd_bytes.specs.Bytes.{u32, same_bytes}
use Rattle.fsd_bytes.specs.declared.key.Key.{Key}
use Rattle.fsd_bytes.specs.declared.key.Serial.{Serial}
use Rattle.fsd_bytes.specs.Keys.{max_u32}
use Rattle.fsd_bytes.proofs.FieldLaws.{AreSmall, small_behind}
use Rattle.fsd_dumps.specs.Dump.{Dumped, is_dumped, is_behind, are_behind, item_bytes, head_bytes, end_bytes, dump_bytes, IsDump, BeginsDump, IsDumpPlace, IsNoDump}
use Rattle.fsd_dumps.specs.Front.{number_32, may_begin, most_begun, most_version, fields_len, head_len, item_named, item_at, rest_of, dumped_in, common, with_front, then_more, ItemsRead, ItemRead}
use Rattle.fsd_dumps.proofs.Numbers.{number_32_of}
use Rattle.fsd_dumps.proofs.Items.{IsFit, dumped_from}
use Rattle.fsd_dumps.proofs.Begins.{MayStand, begins_true}
use Rattle.fsd_dumps.proofs.Room.{BehindParts, behind_parts, room_behind}
use Rattle.fsd_dumps.proofs.Again.{read_again, dump_again}
use Rattle.fsd_dumps.proofs.Spelled.{IsSpelled, item_spelled, may_of_front, small_tail, begins_with, whole_head, number_fits}
use Rattle.fsd_dumps.proofs.Common.{Begins, begins_more, front_append, common_front, common_within, common_most, common_less}
use Rattle.fsd_dumps.proofs.Fronts.{front_32, least_to_most, example, example_stands, example_begins, begun_within, begun_may, begun_most, IsOpen, open_at_first, open_behind}

-- ---- fronts of versions and an end

abbrev pub AreItems : (count left : ℕ) → Option Key → List ℕ → Type 0
AreItems count left last bytes = (items : List Dumped) × (length items ≡ left) × (are_behind last items ≡ true) × (bytes ≡ flat_map item_bytes items ++ end_bytes count)

abbrev pub BeginItems : (count left : ℕ) → Option Key → List ℕ → Type 0
BeginItems count left last front = (more : List ℕ) × AreItems count left last (front ++ more)

stands_of : (last : Option Key) (left : ℕ) (x : Dumped) (others : List Dumped) → length others ≡ left → left < max_u32 → BehindParts last x others → MayStand last left x
stands_of last left x others size few parts =
    record { fit = parts.fit; behind_last = parts.behind_last; room = subst (λ (k : ℕ). x.key.version ≤ most_version k x.key.name) size (room_behind x others parts.fit parts.others); few = few }

behind_one : (last : Option Key) (x : Dumped) (others : List Dumped) → IsFit x → is_behind last x.key ≡ true → are_behind (Some x.key) others ≡ true → are_behind last (x ∷ others) ≡ true
behind_one last x others fit b h = and_from (is_dumped x && is_behind last x.key) (are_behind (Some x.key) others) (and_from (is_dumped x) (is_behind last x.key) (dumped_from x fit) b) h

-- what begins a version that may stand there begins versions
item_begins : (count left : ℕ) (last : Option Key) (x : Dumped) (front : List ℕ) → MayStand last left x → Begins front (item_bytes x) → BeginItems count (suc left) last front
item_begins count left last x front h b =
    let way = open_behind x.key left h.fit.name (omega (arith, h.few)) h.room h.fit.most in
    let tail : List ℕ = flat_map item_bytes way.0 ++ end_bytes count in
    let all = begins_more front (item_bytes x) tail b in
    (all.0, (x ∷ way.0, ap (λ (k : ℕ). suc k) way.1, behind_one last x way.0 h.fit h.behind_last way.2, all.1 ∙ sym (append_assoc (item_bytes x) (flat_map item_bytes way.0) (end_bytes count))))

nothing_begins : (count left : ℕ) (last : Option Key) → IsOpen last left → BeginItems count left last []
nothing_begins count left last way = (flat_map item_bytes way.0 ++ end_bytes count, (way.0, way.1, way.2, refl))

-- ---- one version is not read

pub record StopsAt (count left : ℕ) (last : Option Key) (bytes : List ℕ) (n : ℕ) : Type 0 where
  pub within : n ≤ length bytes
  pub begins : BeginItems count left last (take n bytes)
  pub most : (m : ℕ) → m ≤ length bytes → BeginItems count left last (take m bytes) → m ≤ n

-- a front of a version is one that may begin there
front_may : (count left : ℕ) (last : Option Key) (front : List ℕ) → left < max_u32 → BeginItems count (suc left) last front → may_begin last left front ≡ true
front_may count left last front few (more, ([], size, behind, e)) = absurd (omega (arith, size))
front_may count left last front few (more, (x ∷ others, size, behind, e)) =
    let parts = behind_parts last x others behind in
    let same : length others ≡ left = omega (arith, size) in
    begins_true last left x front more (flat_map item_bytes others ++ end_bytes count) (stands_of last left x others same few parts)
    (e ∙ append_assoc (item_bytes x) (flat_map item_bytes others) (end_bytes count))

-- so is each front of it
front_of_front : (count left : ℕ) (last : Option Key) (bytes : List ℕ) (k m : ℕ) → k ≤ m → BeginItems count left last (take m bytes) → BeginItems count left last (take k bytes)
front_of_front count left last bytes k m le b =
    let cut : take k (take m bytes) ≡ take k bytes = take-take k m bytes le in (
      drop k (take m bytes) ++ b.0,
      subst (AreItems count left last)
          (ap (λ (xs : List ℕ). xs ++ b.0) (sym (take-append-drop k (take m bytes))) ∙ append_assoc (take k (take m bytes)) (drop k (take m bytes)) b.0 ∙ ap (λ (xs : List ℕ). xs ++ (drop k (take m bytes) ++ b.0)) cut)
          b.1,
    )

head_is : (n : ℕ) (bytes : List ℕ) → length (n ∷ take (n + fields_len) bytes) ≤ length (n ∷ bytes)
head_is n bytes = elim (cases_lt (n + fields_len) (length bytes)) [
  | inl lt ↦ omega (arith, lt, length-take-le (n + fields_len) bytes (omega (arith, lt)))
  | inr le ↦ omega (arith, ap (λ (xs : List ℕ). length xs) (take_all (n + fields_len) bytes le))
]

-- a front of the head is one of the bytes
head_front : (n j : ℕ) (bytes : List ℕ) → j ≤ length (n ∷ take (n + fields_len) bytes) → take j (n ∷ take (n + fields_len) bytes) ≡ take j (n ∷ bytes)
head_front n zero bytes le = refl
head_front n (suc j) bytes le = elim (cases_lt (n + fields_len) (length bytes)) [
  | inl lt ↦ ap (λ (xs : List ℕ). n ∷ xs) (take-take j (n + fields_len) bytes (omega (arith, le, length-take-le (n + fields_len) bytes (omega (arith, lt)))))
  | inr long ↦ ap (λ (xs : List ℕ). n ∷ take j xs) (take_all (n + fields_len) bytes long)
]

length_head : (n : ℕ) (bytes : List ℕ) → length (n ∷ take (n + fields_len) bytes) ≤ 12 + n
length_head n bytes = omega (arith, length-take (n + fields_len) bytes)

no_own : (n a k : ℕ) (bytes rest : List ℕ) → k ≤ 12 + n → take k (n ∷ bytes) ≡ a ∷ rest → length (drop 11 (drop a rest)) ≤ number_32 (drop 7 (drop a rest))
no_own n a zero bytes rest le e = absurd cc
no_own n a (suc k) bytes rest le e =
    let same : n ≡ a = ap (λ (xs : List ℕ). get_or xs 0 0) e in
    let size : suc (length (take k bytes)) ≡ suc (length rest) = ap (λ (xs : List ℕ). length xs) e in
    let none : length (drop 11 (drop a rest)) ≡ 0 = omega (arith, le, same, size, length-take k bytes, length-drop a rest, length-drop 11 (drop a rest)) in
    omega (arith, none)

module _ (count left : ℕ) (last : Option Key) (few : left < max_u32) (way : IsOpen last (suc left)) where
  -- what may begin, and has no more own bytes than it tells, begins versions
  may_begins : (bytes : List ℕ) → AreSmall bytes → may_begin last left bytes ≡ true
      → ((n : ℕ) (rest : List ℕ) → bytes ≡ n ∷ rest → length (drop 11 (drop n rest)) ≤ number_32 (drop 7 (drop n rest))) → BeginItems count (suc left) last bytes
  may_begins [] small may short = nothing_begins count (suc left) last way
  may_begins (n ∷ rest) small may short =
      let le = short n rest refl in
      let small_rest : AreSmall rest = λ i. small (suc i) in
      item_begins count left last (example left n rest) (n ∷ rest) (example_stands last left n rest few may le) (example_begins last left n rest small_rest may le)

  small_take : (k : ℕ) (bytes : List ℕ) → AreSmall bytes → AreSmall (take k bytes)
  small_take zero bytes small i = omega arith
  small_take (suc k) [] small i = omega arith
  small_take (suc k) (b ∷ bytes) small zero = small 0
  small_take (suc k) (b ∷ bytes) small (suc i) = small_take k bytes (λ j. small (suc j)) i

  -- the head may not begin
  stops_in_head : (n : ℕ) (bytes : List ℕ) → AreSmall (n ∷ bytes) → may_begin last left (n ∷ take (n + fields_len) bytes) ≡ false
      → StopsAt count (suc left) last (n ∷ bytes) (most_begun last left (n ∷ take (n + fields_len) bytes) (length (n ∷ take (n + fields_len) bytes)))
  stops_in_head n bytes small never =
      let head : List ℕ = n ∷ take (n + fields_len) bytes in
      let k : ℕ = most_begun last left head (length head) in
      let within : k ≤ length head = begun_within last left head (length head) in
      let front : take k head ≡ take k (n ∷ bytes) = head_front n k bytes within in
      let may : may_begin last left (take k (n ∷ bytes)) ≡ true = ap (may_begin last left) (sym front) ∙ begun_may last left head (length head) in
      record {
        within = omega (arith, within, head_is n bytes);
        begins = may_begins (take k (n ∷ bytes)) (small_take k (n ∷ bytes) small) may (λ a rest e. no_own n a k bytes rest (omega (arith, within, length_head n bytes)) e);
        most = λ m le b. by m le b (cases_lt (length head) m);
      }
    where
      by : (m : ℕ) → m ≤ length (n ∷ bytes) → BeginItems count (suc left) last (take m (n ∷ bytes)) → (length (n ∷ take (n + fields_len) bytes) < m) ⊎ (m ≤ length (n ∷ take (n + fields_len) bytes))
          → m ≤ most_begun last left (n ∷ take (n + fields_len) bytes) (length (n ∷ take (n + fields_len) bytes))
      by m le b (inr short) =
          begun_most last left (n ∷ take (n + fields_len) bytes) (length (n ∷ take (n + fields_len) bytes)) m short
          (ap (may_begin last left) (head_front n m bytes short) ∙ front_may count left last (take m (n ∷ bytes)) few b)
      by m le b (inl long) =
          let size : ℕ = length (n ∷ take (n + fields_len) bytes) in
          let part = front_of_front count (suc left) last (n ∷ bytes) size m (omega (arith, long)) b in
          let whole : take size (n ∷ bytes) ≡ n ∷ take (n + fields_len) bytes = sym (head_front n size bytes (omega arith)) ∙ take_all size (n ∷ take (n + fields_len) bytes) (omega arith) in
          absurd (let bad : false ≡ true = sym never ∙ ap (may_begin last left) (sym whole) ∙ front_may count left last (take size (n ∷ bytes)) few part in cc)

  -- the bytes end in a version
  stops_at_end : (n : ℕ) (bytes : List ℕ) → AreSmall (n ∷ bytes) → may_begin last left (n ∷ take (n + fields_len) bytes) ≡ true
      → length (drop n bytes) < fields_len + number_32 (drop 7 (drop n bytes)) → StopsAt count (suc left) last (n ∷ bytes) (1 + length bytes)
  stops_at_end n bytes small may short =
      let all : take (1 + length bytes) (n ∷ bytes) ≡ n ∷ bytes = take_all (1 + length bytes) (n ∷ bytes) (omega arith) in
      record {
        within = omega arith;
        begins = subst (BeginItems count (suc left) last) (sym all) (may_begins (n ∷ bytes) small (sym (may_of_front last left n bytes) ∙ may) own);
        most = λ m le b. omega (arith, le);
      }
    where
      own : (a : ℕ) (rest : List ℕ) → n ∷ bytes ≡ a ∷ rest → length (drop 11 (drop a rest)) ≤ number_32 (drop 7 (drop a rest))
      own a rest e =
          let P : List ℕ → Type 0 = λ xs. length (drop 11 (drop (get_or xs 0 0) (drop 1 xs))) ≤ number_32 (drop 7 (drop (get_or xs 0 0) (drop 1 xs))) in
          let here : P (n ∷ bytes) = omega (arith, short, length-drop 11 (drop n bytes)) in
          subst P e here

  item_stops : (bytes : List ℕ) (k : ℕ) → AreSmall bytes → item_at last left bytes ≡ Err k → StopsAt count (suc left) last bytes k
  item_stops [] k small e =
      let none : 0 ≡ k = cc in
      subst (StopsAt count (suc left) last []) none (record { within = omega arith; begins = nothing_begins count (suc left) last way; most = λ m le b. le })
  item_stops (n ∷ bytes) k small e = by (may_begin last left (n ∷ take (n + fields_len) bytes)) (nat_lt (length (drop n bytes)) (fields_len + number_32 (drop 7 (drop n bytes)))) refl refl e
    where
      by : (m s : Bool) → may_begin last left (n ∷ take (n + fields_len) bytes) ≡ m → nat_lt (length (drop n bytes)) (fields_len + number_32 (drop 7 (drop n bytes))) ≡ s
          → cond {A = ItemRead} (not m) (Err (most_begun last left (n ∷ take (n + fields_len) bytes) (length (n ∷ take (n + fields_len) bytes)))) (cond s (Err (1 + length bytes)) (Ok (item_named (take n bytes) (drop n bytes)))) ≡ Err k
          → StopsAt count (suc left) last (n ∷ bytes) k
      by false s may short e =
          let same : most_begun last left (n ∷ take (n + fields_len) bytes) (length (n ∷ take (n + fields_len) bytes)) ≡ k = cc in
          subst (StopsAt count (suc left) last (n ∷ bytes)) same (stops_in_head n bytes small may)
      by true true may short e =
          let same : 1 + length bytes ≡ k = cc in
          subst (StopsAt count (suc left) last (n ∷ bytes)) same (stops_at_end n bytes small may (ltb-true (length (drop n bytes)) (fields_len + number_32 (drop 7 (drop n bytes))) short))
      by true false may short e = absurd cc

-- ---- versions, one behind another

take_past : (a b : List ℕ) (n : ℕ) → take (length a + n) (a ++ b) ≡ a ++ take n b
take_past [] b n = ap (λ (k : ℕ). take k b) (let e : 0 + n ≡ n = omega arith in e)
take_past (x ∷ a) b n = ap (λ (k : ℕ). take k (x ∷ (a ++ b))) (let e : suc (length a) + n ≡ suc (length a + n) = omega arith in e) ∙ ap (λ (xs : List ℕ). x ∷ xs) (take_past a b n)

abbrev IsAgain : (count left : ℕ) → Type 0
IsAgain count left = (last : Option Key) (bytes : List ℕ) (n : ℕ) → AreSmall bytes → left ≤ max_u32 → IsOpen last left → rest_of count left last bytes ≡ Err n → StopsAt count left last bytes n

stops_behind : (count left : ℕ) → IsAgain count left → (last : Option Key) (bytes : List ℕ) (x : Dumped) (rest : List ℕ) (k : ℕ) → AreSmall bytes → left < max_u32 → IsSpelled last left bytes x rest
    → rest_of count left (Some x.key) rest ≡ Err k → StopsAt count (suc left) last bytes ((length bytes - length rest) + k)
stops_behind count left again last bytes x rest k small few s e =
    let size : length bytes ≡ length (item_bytes x) + length rest = ap (λ (xs : List ℕ). length xs) s.text ∙ length-append (item_bytes x) rest in
    let shift : (length bytes - length rest) + k ≡ length (item_bytes x) + k = omega (arith, size) in
    let stands : MayStand last left x = record { fit = s.fit; behind_last = s.behind_last; room = s.room; few = few } in
    let tail = again (Some x.key) rest k (small_tail (item_bytes x) rest (subst AreSmall s.text small)) (omega (arith, few)) (open_behind x.key left s.fit.name (omega (arith, few)) s.room s.fit.most) e in
    subst (StopsAt count (suc left) last bytes) (sym shift) (record {
      within = omega (arith, size, tail.within);
      begins = begins stands tail.begins;
      most = λ m le b. by stands tail.most size m le b (cases_lt (length (item_bytes x)) m);
    })
  where
    cut : (j : ℕ) → take (length (item_bytes x) + j) bytes ≡ item_bytes x ++ take j rest
    cut j = ap (take (length (item_bytes x) + j)) s.text ∙ take_past (item_bytes x) rest j

    begins : MayStand last left x → BeginItems count left (Some x.key) (take k rest) → BeginItems count (suc left) last (take (length (item_bytes x) + k) bytes)
    begins h (more, (items, number, behind, text)) = (
      more,
      (
        x ∷ items,
        ap (λ (i : ℕ). suc i) number,
        behind_one last x items h.fit h.behind_last behind,
        ap (λ (xs : List ℕ). xs ++ more) (cut k)
            ∙ append_assoc (item_bytes x) (take k rest) more
            ∙ ap (λ (xs : List ℕ). item_bytes x ++ xs) text
            ∙ sym (append_assoc (item_bytes x) (flat_map item_bytes items) (end_bytes count)),
      ),
    )

    inner : MayStand last left x → (j : ℕ) → BeginItems count (suc left) last (item_bytes x ++ take j rest) → BeginItems count left (Some x.key) (take j rest)
    inner h j (more, ([], number, behind, text)) = absurd (omega (arith, number))
    inner h j (more, (y ∷ others, number, behind, text)) =
        let parts = behind_parts last y others behind in
        let same : length others ≡ left = omega (arith, number) in
        let other = stands_of last left y others same few parts in
        let z : List ℕ = flat_map item_bytes others ++ end_bytes count in
        let both : item_bytes x ++ (take j rest ++ more) ≡ item_bytes y ++ z =
        sym (append_assoc (item_bytes x) (take j rest) more) ∙ text ∙ append_assoc (item_bytes y) (flat_map item_bytes others) (end_bytes count) in
        let one : ItemRead = Ok (x, take j rest ++ more) in
        let two : ItemRead = Ok (y, z) in
        let agree : one ≡ two = sym (read_again last left x (take j rest ++ more) h) ∙ ap (item_at last left) both ∙ read_again last left y z other in
        let pair : ◌≡◌ {A = Dumped × List ℕ} (x, take j rest ++ more) (y, z) = cc in
        let key : y.key ≡ x.key = ap (λ (p : Dumped × List ℕ). p.0.key) (sym pair) in
        (more, (others, same, subst (λ (q : Key). are_behind (Some q) others ≡ true) key parts.others, ap (λ (p : Dumped × List ℕ). p.1) pair))

    by : MayStand last left x → ((j : ℕ) → j ≤ length rest → BeginItems count left (Some x.key) (take j rest) → j ≤ k) → length bytes ≡ length (item_bytes x) + length rest
        → (m : ℕ) → m ≤ length bytes → BeginItems count (suc left) last (take m bytes) → (length (item_bytes x) < m) ⊎ (m ≤ length (item_bytes x)) → m ≤ length (item_bytes x) + k
    by h most size m le b (inr short) = omega (arith, short)
    by h most size m le b (inl long) =
        let j : ℕ = m - length (item_bytes x) in
        let at : m ≡ length (item_bytes x) + j = omega (arith, long) in
        let front : take m bytes ≡ item_bytes x ++ take j rest = ap (λ (i : ℕ). take i bytes) at ∙ cut j in
        omega (arith, at, most j (omega (arith, le, size, at)) (inner h j (subst (BeginItems count (suc left) last) front b)))

pub rest_stops : (count left : ℕ) → IsAgain count left
rest_stops count zero last bytes n small few way e = by (same_bytes bytes (end_bytes count)) e
  where
    end_only : (m : ℕ) → m ≤ length bytes → BeginItems count 0 last (take m bytes) → m ≤ common (end_bytes count) bytes
    end_only m le (more, ([], number, behind, text)) = common_most (end_bytes count) bytes more m le text
    end_only m le (more, (x ∷ items, number, behind, text)) = absurd (omega (arith, number))

    by : (b : Bool) → cond {A = ItemsRead} b (Ok []) (Err (common (end_bytes count) bytes)) ≡ Err n → StopsAt count 0 last bytes n
    by true e = absurd cc
    by false e =
        let same : common (end_bytes count) bytes ≡ n = cc in
        subst (StopsAt count 0 last bytes) same (record {
          within = common_within (end_bytes count) bytes;
          begins = (drop (common (end_bytes count) bytes) (end_bytes count), ([], refl, refl, common_front (end_bytes count) bytes));
          most = end_only;
        })
rest_stops count (suc left) last bytes n small few way e = by (rest_stops count left) (item_at last left bytes) refl e
  where
    behind : IsAgain count left → (x : Dumped) (rest : List ℕ) → IsSpelled last left bytes x rest → (r : ItemsRead) → rest_of count left (Some x.key) rest ≡ r
        → with_front (x ∷ []) (length bytes - length rest) r ≡ Err n → StopsAt count (suc left) last bytes n
    behind again x rest s (Ok others) is e = absurd cc
    behind again x rest s (Err k) is e =
        let same : (length bytes - length rest) + k ≡ n = cc in
        subst (StopsAt count (suc left) last bytes) same (stops_behind count left again last bytes x rest k small (omega (arith, few)) s is)

    by : IsAgain count left → (r : ItemRead) → item_at last left bytes ≡ r → then_more (length bytes) (λ y. rest_of count left (Some y.0.key) y.1) r ≡ Err n → StopsAt count (suc left) last bytes n
    by again (Err k) is e =
        let same : k ≡ n = cc in
        subst (StopsAt count (suc left) last bytes) same (item_stops count left last (omega (arith, few)) way bytes k small is)
    by again (Ok x) is e = behind again x.0 x.1 (item_spelled last left bytes x.0 x.1 small is) (rest_of count left (Some x.0.key) x.1) refl e

-- ---- the whole

no_serial : Serial
no_serial = record { epoch = 0; count = 0 }

-- with these versions behind its head it is a dump
dump_behind : (count : ℕ) (latest : Serial) (bytes : List ℕ) → count ≤ max_u32 → AreItems count count None bytes → IsDump (head_bytes count latest ++ bytes)
dump_behind count latest bytes few (items, number, behind, text) = (
  items,
  (
    and_from (nat_le (length items) max_u32) (are_behind None items) (le-leb (length items) max_u32 (omega (arith, number, few))) behind,
    (latest, ap (λ (xs : List ℕ). head_bytes count latest ++ xs) text ∙ ap (λ (n : ℕ). head_bytes n latest ++ (flat_map item_bytes items ++ end_bytes n)) (sym number)),
  ),
)

not_read : (bytes : List ℕ) (n : ℕ) → dumped_in bytes ≡ Err n → IsDump bytes → ⊥
not_read bytes n e (items, (good, (latest, text))) =
    let bad : ◌≡◌ {A = ItemsRead} (Err n) (Ok items) = sym e ∙ ap dumped_in text ∙ dump_again latest items good in absurd cc

begins_head : (bytes : List ℕ) → AreSmall bytes → 4 ≤ common (codes "CFSD") bytes → length bytes < head_len
    → Begins bytes (head_bytes (number_32 (drop 4 bytes)) (record { epoch = number_32 (drop 8 bytes); count = number_32 (drop 12 bytes) }))
begins_head bytes small same short =
    let number = λ (k : ℕ). front_32 (number_32 (drop k bytes)) (drop k bytes) (small_behind k bytes small) (omega arith) (least_to_most (drop k bytes)) in
    let u : ℕ → List ℕ = λ k. u32 (number_32 (drop k bytes)) in
    let none : length (drop 4 (drop 12 bytes)) ≡ 0 = omega (arith, short, length-drop 12 bytes, length-drop 4 (drop 12 bytes)) in
    let d : Begins (drop 4 (drop 12 bytes)) [] = ([], append-nil (drop 4 (drop 12 bytes)) ∙ nil_from_length (drop 4 (drop 12 bytes)) none) in
    let c : Begins (drop 4 (drop 8 bytes)) (u 12) = subst (λ (xs : List ℕ). Begins xs (u 12)) (sym (drop-drop 4 8 bytes)) (front_append 4 (drop 12 bytes) (u 12) [] refl (number 12) d) in
    let b : Begins (drop 4 (drop 4 bytes)) (u 8 ++ u 12) = subst (λ (xs : List ℕ). Begins xs (u 8 ++ u 12)) (sym (drop-drop 4 4 bytes)) (front_append 4 (drop 8 bytes) (u 8) (u 12) refl (number 8) c) in
    let a : Begins (drop 4 bytes) (u 4 ++ (u 8 ++ u 12)) = front_append 4 (drop 4 bytes) (u 4) (u 8 ++ u 12) refl (number 4) b in
    let start : bytes ≡ codes "CFSD" ++ drop 4 bytes = begins_with (codes "CFSD") bytes same in
    (a.0, ap (λ (xs : List ℕ). xs ++ a.0) start ∙ ap (λ (xs : List ℕ). codes "CFSD" ++ xs) a.1)

-- a dump without versions
empty_dump : IsDump (codes "CFSD" ++ drop 4 (dump_bytes no_serial []))
unfolding no_serial
empty_dump = ([], (refl, (no_serial, refl)))

stops_in_magic : (bytes : List ℕ) → common (codes "CFSD") bytes < 4 → IsDumpPlace (common (codes "CFSD") bytes) bytes
stops_in_magic bytes lt =
    let k : ℕ = common (codes "CFSD") bytes in
    let rest : List ℕ = drop 4 (dump_bytes no_serial []) in
    let text : take k bytes ++ (drop k (codes "CFSD") ++ rest) ≡ codes "CFSD" ++ rest =
    sym (append_assoc (take k bytes) (drop k (codes "CFSD")) rest) ∙ ap (λ (xs : List ℕ). xs ++ rest) (common_front (codes "CFSD") bytes) in
    record {
      within = common_within (codes "CFSD") bytes;
      begins = (drop k (codes "CFSD") ++ rest, subst IsDump (sym text) empty_dump);
      most = most;
    }
  where
    most : (m : ℕ) → m ≤ length bytes → BeginsDump (take m bytes) → m ≤ common (codes "CFSD") bytes
    most m le (more, (items, (good, (latest, text)))) = common_less (codes "CFSD") (drop 4 (dump_bytes latest items)) bytes more m le text lt

stops_in_head_of : (bytes : List ℕ) → AreSmall bytes → 4 ≤ common (codes "CFSD") bytes → length bytes < head_len → IsDumpPlace (length bytes) bytes
stops_in_head_of bytes small same short =
    let count : ℕ = number_32 (drop 4 bytes) in
    let latest : Serial = record { epoch = number_32 (drop 8 bytes); count = number_32 (drop 12 bytes) } in
    let few : count ≤ max_u32 = number_fits (drop 4 bytes) (small_behind 4 bytes small) in
    let way = open_at_first count few in
    let tail : List ℕ = flat_map item_bytes way.0 ++ end_bytes count in
    let all = begins_more bytes (head_bytes count latest) tail (begins_head bytes small same short) in
    let whole : take (length bytes) bytes ≡ bytes = take_all (length bytes) bytes (omega arith) in
    record {
      within = omega arith;
      begins = (all.0, subst IsDump (sym (ap (λ (xs : List ℕ). xs ++ all.0) whole ∙ all.1)) (dump_behind count latest tail few (way.0, way.1, way.2, refl)));
      most = λ m le b. le;
    }

stops_behind_head : (bytes : List ℕ) (k : ℕ) → AreSmall bytes → 4 ≤ common (codes "CFSD") bytes → head_len ≤ length bytes
    → rest_of (number_32 (drop 4 bytes)) (number_32 (drop 4 bytes)) None (drop head_len bytes) ≡ Err k → IsDumpPlace (head_len + k) bytes
stops_behind_head bytes k small same long e =
    let few : number_32 (drop 4 bytes) ≤ max_u32 = number_fits (drop 4 bytes) (small_behind 4 bytes small) in
    let s = rest_stops (number_32 (drop 4 bytes)) (number_32 (drop 4 bytes)) None (drop head_len bytes) k (small_behind head_len bytes small) few (open_at_first (number_32 (drop 4 bytes)) few) e in
    record {
      within = omega (arith, long, s.within, length-drop head_len bytes);
      begins = begins few s.begins;
      most = λ m le b. by few s.most m le b (cases_lt head_len m);
    }
  where
    cut : (j : ℕ) → take (head_len + j) bytes ≡ head_bytes (number_32 (drop 4 bytes)) (record { epoch = number_32 (drop 8 bytes); count = number_32 (drop 12 bytes) }) ++ take j (drop head_len bytes)
    cut j =
        let h : List ℕ = head_bytes (number_32 (drop 4 bytes)) (record { epoch = number_32 (drop 8 bytes); count = number_32 (drop 12 bytes) }) in
        ap (take (head_len + j)) (whole_head bytes small same long) ∙ take_past h (drop head_len bytes) j

    begins : number_32 (drop 4 bytes) ≤ max_u32 → BeginItems (number_32 (drop 4 bytes)) (number_32 (drop 4 bytes)) None (take k (drop head_len bytes)) → BeginsDump (take (head_len + k) bytes)
    begins few (more, items) =
        let h : List ℕ = head_bytes (number_32 (drop 4 bytes)) (record { epoch = number_32 (drop 8 bytes); count = number_32 (drop 12 bytes) }) in
        let text : take (head_len + k) bytes ++ more ≡ h ++ (take k (drop head_len bytes) ++ more) = ap (λ (xs : List ℕ). xs ++ more) (cut k) ∙ append_assoc h (take k (drop head_len bytes)) more in
        (more, subst IsDump (sym text) (dump_behind (number_32 (drop 4 bytes)) (record { epoch = number_32 (drop 8 bytes); count = number_32 (drop 12 bytes) }) (take k (drop head_len bytes) ++ more) few items))

    inner : number_32 (drop 4 bytes) ≤ max_u32 → (j : ℕ)
        → BeginsDump (head_bytes (number_32 (drop 4 bytes)) (record { epoch = number_32 (drop 8 bytes); count = number_32 (drop 12 bytes) }) ++ take j (drop head_len bytes))
        → BeginItems (number_32 (drop 4 bytes)) (number_32 (drop 4 bytes)) None (take j (drop head_len bytes))
    inner few j (more, (items, (good, (other, text)))) =
        let parts = and_parts (nat_le (length items) max_u32) (are_behind None items) good in
        let c : ℕ = number_32 (drop 4 bytes) in
        let w : List ℕ = take j (drop head_len bytes) in
        let fits : length items ≤ max_u32 = leb-true (length items) max_u32 parts.0 in
        let left : number_32 (u32 c ++ (u32 (number_32 (drop 8 bytes)) ++ (u32 (number_32 (drop 12 bytes)) ++ (w ++ more)))) ≡ c = number_32_of c (u32 (number_32 (drop 8 bytes)) ++ (u32 (number_32 (drop 12 bytes)) ++ (w ++ more))) (omega (arith, few)) in
        let right : number_32 (u32 (length items) ++ drop 8 (dump_bytes other items)) ≡ length items = number_32_of (length items) (drop 8 (dump_bytes other items)) (omega (arith, fits)) in
        let number : length items ≡ c = sym right ∙ ap (λ (xs : List ℕ). number_32 (drop 4 xs)) (sym text) ∙ left in
        (more, (items, number, parts.1, ap (drop 16) text ∙ ap (λ (n : ℕ). flat_map item_bytes items ++ end_bytes n) number))

    by : number_32 (drop 4 bytes) ≤ max_u32
        → ((j : ℕ) → j ≤ length (drop head_len bytes) → BeginItems (number_32 (drop 4 bytes)) (number_32 (drop 4 bytes)) None (take j (drop head_len bytes)) → j ≤ k)
        → (m : ℕ) → m ≤ length bytes → BeginsDump (take m bytes) → (head_len < m) ⊎ (m ≤ head_len) → m ≤ head_len + k
    by few most m le b (inr short) = omega (arith, short)
    by few most m le b (inl past) =
        let j : ℕ = m - head_len in
        let at : m ≡ head_len + j = omega (arith, past) in
        let front = ap (λ (i : ℕ). take i bytes) at ∙ cut j in
        omega (arith, at, most j (omega (arith, le, at, length-drop head_len bytes)) (inner few j (subst BeginsDump front b)))

pub dump_stops : (bytes : List ℕ) (n : ℕ) → AreSmall bytes → dumped_in bytes ≡ Err n → IsNoDump n bytes
dump_stops bytes n small e = record { none = not_read bytes n e; until = by (nat_lt (common (codes "CFSD") bytes) 4) (nat_lt (length bytes) head_len) refl refl e }
  where
    behind : 4 ≤ common (codes "CFSD") bytes → head_len ≤ length bytes → (r : ItemsRead) → rest_of (number_32 (drop 4 bytes)) (number_32 (drop 4 bytes)) None (drop head_len bytes) ≡ r
        → with_front [] head_len r ≡ Err n → IsDumpPlace n bytes
    behind same long (Ok items) is e = absurd cc
    behind same long (Err k) is e = let at : head_len + k ≡ n = cc in subst (λ (i : ℕ). IsDumpPlace i bytes) at (stops_behind_head bytes k small same long is)

    by : (a b : Bool) → nat_lt (common (codes "CFSD") bytes) 4 ≡ a → nat_lt (length bytes) head_len ≡ b
        → cond {A = ItemsRead} a (Err (common (codes "CFSD") bytes)) (cond b (Err (length bytes)) (with_front [] head_len (rest_of (number_32 (drop 4 bytes)) (number_32 (drop 4 bytes)) None (drop head_len bytes)))) ≡ Err n
        → IsDumpPlace n bytes
    by true b x y e = let at : common (codes "CFSD") bytes ≡ n = cc in subst (λ (i : ℕ). IsDumpPlace i bytes) at (stops_in_magic bytes (ltb-true (common (codes "CFSD") bytes) 4 x))
    by false true x y e = let at : length bytes ≡ n = cc in subst (λ (i : ℕ). IsDumpPlace i bytes) at (stops_in_head_of bytes small (ltb-false (common (codes "CFSD") bytes) 4 x) (ltb-true (length bytes) head_len y))
    by false false x y e =
        behind (ltb-false (common (codes "CFSD") bytes) 4 x) (ltb-false (length bytes) head_len y) (rest_of (number_32 (drop 4 bytes)) (number_32 (drop 4 bytes)) None (drop head_len bytes)) refl e
