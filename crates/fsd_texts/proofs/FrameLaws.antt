-- The frames of bytes, however these are cut.
use Rattle.std.proofs.Common.{◌≡◌, Bool, true, false, cond, ℕ, zero, suc, ◌+◌, ◌<◌, ◌≤◌, ◌^◌, List, [], ◌∷◌, ◌++◌, length, take, drop, Result, Ok, Err, refl, sym, ap, subst, ◌∙◌, arith, append_assoc, append-nil, length-append, length-drop}
use Rattle.std.specs.Prelude.{nat_lt, nat_le}
use Rattle.std.specs.List.{concat}
use Rattle.std.proofs.lemmas.Bool.{and_from, and_parts, cond-true, le-leb, le-ltb, leb-true, ltb-false, ltb-true}
use Rattle.std.proofs.lemmas.List.{take-append-le, drop-append-le, take_at, drop_at}
use Rattle.std.proofs.lemmas.Nat.{from_be_bytes-to_be_bytes_4}
use Rattle.fsd_bytes.specs.Bytes.{u32, u32_at}
use Rattle.fsd_bytes.specs.Keys.{max_u32}
use Rattle.fsd_bytes.specs.Names.{is_between}
use Rattle.fsd_texts.specs.declared.no_frame.NoFrame.{NoFrame}
use Rattle.fsd_texts.specs.declared.no_frame.NoFrame.TheVariants.{Short, Bad}
use Rattle.fsd_texts.specs.Frames.{Frame, after, behind_length, body_at, field_at, frame_at, frame_text, frames_by, frames_from, frames_in, max_body, number_within, then_frames, then_read}

-- ---- a frame stays the same whatever stands behind it

-- whether more bytes change nothing
abbrev late : {A : Type 0} → Result A NoFrame → Bool
late (Ok x) = true
late (Err Bad) = true
late (Err Short) = false

abbrev with_more : {A : Type 0} → Result (A × List ℕ) NoFrame → List ℕ → Result (A × List ℕ) NoFrame
with_more (Ok x) more = Ok (x.0, x.1 ++ more)
with_more (Err why) more = Err why

chain_more : {A B : Type 0} (f : A × List ℕ → Result (B × List ℕ) NoFrame) (more : List ℕ) (read longer : Result (A × List ℕ) NoFrame) → (late read ≡ true → longer ≡ with_more read more)
    → ((x : A × List ℕ) → late (f x) ≡ true → f (x.0, x.1 ++ more) ≡ with_more (f x) more) → late (then_read read f) ≡ true → then_read longer f ≡ with_more (then_read read f) more
chain_more f more (Ok x) longer same step is = ap (λ r. then_read r f) (same refl) ∙ step x is
chain_more f more (Err Bad) longer same step is = ap (λ r. then_read r f) (same refl)
chain_more f more (Err Short) longer same step is = absurd cc

picked_more : (b : Bool) (n : ℕ) (bytes more : List ℕ) → cond b (Ok (n, bytes ++ more)) (Err Bad) ≡ with_more (cond b (Ok (n, bytes)) (Err Bad)) more
picked_more true n bytes more = refl
picked_more false n bytes more = refl

field_more : (most : ℕ) (bytes more : List ℕ) → late (field_at most bytes) ≡ true → field_at most (bytes ++ more) ≡ with_more (field_at most bytes) more
field_more most [] more is = absurd cc
field_more most (a ∷ []) more is = absurd cc
field_more most (a ∷ b ∷ []) more is = absurd cc
field_more most (a ∷ b ∷ c ∷ []) more is = absurd cc
field_more most (a ∷ b ∷ c ∷ d ∷ bytes) more is = let n = u32_at 0 (a ∷ b ∷ c ∷ d ∷ []) in picked_more (is_between 1 most n) n bytes more

abbrev body_if : Bool → (len tag : ℕ) → List ℕ → Result (Frame × List ℕ) NoFrame
body_if short len tag bytes = cond short (Err Short) (Ok (record { tag = tag; body = take len bytes }, drop len bytes))

long_enough : (len : ℕ) (bytes : List ℕ) → len ≤ length bytes → nat_lt (length bytes) len ≡ false
long_enough len bytes fits = le-ltb (length bytes) len fits

body_more_if : (short : Bool) (len tag : ℕ) (bytes more : List ℕ) → nat_lt (length bytes) len ≡ short → late (body_if short len tag bytes) ≡ true → body_at len tag (bytes ++ more) ≡ with_more (body_if short len tag bytes) more
body_more_if true len tag bytes more short is = absurd cc
body_more_if false len tag bytes more short is =
    let fits : len ≤ length bytes = ltb-false (length bytes) len short in
    ap (λ (s : Bool). body_if s len tag (bytes ++ more)) (long_enough len (bytes ++ more) (omega (arith, fits, length-append bytes more)))
    ∙ ap (λ (b : List ℕ). Ok (record { tag = tag; body = b }, drop len (bytes ++ more))) (take-append-le len bytes more fits)
    ∙ ap (λ (r : List ℕ). Ok (record { tag = tag; body = take len bytes }, r)) (drop-append-le len bytes more fits)

body_more : (len tag : ℕ) (bytes more : List ℕ) → late (body_at len tag bytes) ≡ true → body_at len tag (bytes ++ more) ≡ with_more (body_at len tag bytes) more
body_more len tag bytes more is = body_more_if (nat_lt (length bytes) len) len tag bytes more refl is

behind_more : (more : List ℕ) (x : ℕ × List ℕ) → late (behind_length x) ≡ true → behind_length (x.0, x.1 ++ more) ≡ with_more (behind_length x) more
behind_more more x is = chain_more (λ t. body_at x.0 t.0 t.1) more (field_at max_u32 x.1) (field_at max_u32 (x.1 ++ more)) (field_more max_u32 x.1 more) (λ t l. body_more x.0 t.0 t.1 more l) is

frame_more : (bytes more : List ℕ) → late (frame_at bytes) ≡ true → frame_at (bytes ++ more) ≡ with_more (frame_at bytes) more
frame_more bytes more is = chain_more behind_length more (field_at max_body bytes) (field_at max_body (bytes ++ more)) (field_more max_body bytes more) (behind_more more) is

abbrev FrameRead : Type 0
FrameRead = Result (Frame × List ℕ) NoFrame

pub whole_stays : (bytes more rest : List ℕ) (f : Frame) → frame_at bytes ≡ Ok (f, rest) → frame_at (bytes ++ more) ≡ Ok (f, rest ++ more)
whole_stays bytes more rest f is = frame_more bytes more (ap (λ (r : FrameRead). late r) is) ∙ ap (λ (r : FrameRead). with_more r more) is

pub bad_stays : (bytes more : List ℕ) → frame_at bytes ≡ Err Bad → frame_at (bytes ++ more) ≡ Err Bad
bad_stays bytes more is = frame_more bytes more (ap (λ (r : FrameRead). late r) is) ∙ ap (λ (r : FrameRead). with_more r more) is

-- ---- a frame takes a byte at least

abbrev Within : {A : Type 0} → (n : ℕ) → Result (A × List ℕ) NoFrame → Type 0
Within n (Ok x) = length x.1 ≤ n
Within n (Err why) = Unit {0}

chain_within : {A B : Type 0} (n : ℕ) (f : A × List ℕ → Result (B × List ℕ) NoFrame) (read : Result (A × List ℕ) NoFrame) → Within n read → ((x : A × List ℕ) → length x.1 ≤ n → Within n (f x)) → Within n (then_read read f)
chain_within n f (Ok x) within step = step x within
chain_within n f (Err why) within step = tt

picked_within : (b : Bool) (k : ℕ) (bytes : List ℕ) (n : ℕ) → length bytes ≤ n → Within n (cond b (Ok (k, bytes)) (Err Bad))
picked_within true k bytes n less = less
picked_within false k bytes n less = tt

field_within : (most : ℕ) (bytes : List ℕ) (n : ℕ) → length bytes ≤ suc n → Within n (field_at most bytes)
field_within most [] n less = tt
field_within most (a ∷ []) n less = tt
field_within most (a ∷ b ∷ []) n less = tt
field_within most (a ∷ b ∷ c ∷ []) n less = tt
field_within most (a ∷ b ∷ c ∷ d ∷ bytes) n less = let k = u32_at 0 (a ∷ b ∷ c ∷ d ∷ []) in picked_within (is_between 1 most k) k bytes n (omega (arith, less))

body_within : (short : Bool) (len tag : ℕ) (bytes : List ℕ) (n : ℕ) → length bytes ≤ n → Within n (body_if short len tag bytes)
body_within true len tag bytes n less = tt
body_within false len tag bytes n less = omega (arith, less, length-drop len bytes)

frame_within : (bytes : List ℕ) (n : ℕ) → length bytes ≤ suc n → Within n (frame_at bytes)
frame_within bytes n less =
    chain_within n behind_length (field_at max_body bytes) (field_within max_body bytes n less)
    (λ len l. chain_within n (λ t. body_at len.0 t.0 t.1) (field_at max_u32 len.1) (field_within max_u32 len.1 n (omega (arith, l))) (λ t k. body_within (nat_lt (length t.1) len.0) len.0 t.0 t.1 n k))

-- ---- more steps than bytes change nothing

abbrev Frames : Type 0
Frames = List Frame × List ℕ

abbrev put_first : Frame → Frames → Frames
put_first f x = (f ∷ x.0, x.1)

step_same : (n : ℕ) (bytes : List ℕ) (one other : List ℕ → Frames) → ((rest : List ℕ) → length rest ≤ n → one rest ≡ other rest) → (read : FrameRead) → Within n read → then_frames bytes one read ≡ then_frames bytes other read
step_same n bytes one other same (Ok x) within = ap (put_first x.0) (same x.1 within)
step_same n bytes one other same (Err why) within = refl

enough : (m n : ℕ) (bytes : List ℕ) → length bytes ≤ m → length bytes ≤ n → frames_from m bytes ≡ frames_from n bytes
enough zero zero bytes a b = refl
enough zero (suc n) [] a b = refl
enough zero (suc n) (x ∷ bytes) a b = absurd (omega (arith, a))
enough (suc m) zero [] a b = refl
enough (suc m) zero (x ∷ bytes) a b = absurd (omega (arith, b))
enough (suc m) (suc n) [] a b = refl
enough (suc m) (suc n) (x ∷ bytes) a b =
    step_same (length bytes) (x ∷ bytes) (frames_from m) (frames_from n) (λ rest less. enough m n rest (omega (arith, a, less)) (omega (arith, b, less))) (frame_at (x ∷ bytes)) (frame_within (x ∷ bytes) (length bytes) (omega arith))

one_then : (bytes : List ℕ) (x : Frame × List ℕ) → frame_at bytes ≡ Ok x → frames_in bytes ≡ put_first x.0 (frames_in x.1)
one_then bytes x is =
    let less : length x.1 ≤ length bytes = subst (λ (r : FrameRead). Within (length bytes) r) is (frame_within bytes (length bytes) (omega arith)) in
    enough (length bytes) (suc (length bytes)) bytes (omega arith) (omega arith)
    ∙ ap (then_frames bytes (frames_from (length bytes))) is
    ∙ ap (put_first x.0) (enough (length bytes) (length x.1) x.1 less (omega arith))

-- ---- however they are cut

cut_step : (m : ℕ) (front more : List ℕ) → ((rest : List ℕ) → length rest ≤ m → frames_in (rest ++ more) ≡ after (frames_from m rest) more) → length front ≤ suc m
    → (read : FrameRead) → frame_at front ≡ read → frames_in (front ++ more) ≡ after (then_frames front (frames_from m) read) more
cut_step m front more next fits (Err why) is = refl
cut_step m front more next fits (Ok x) is =
    let less : length x.1 ≤ m = subst (λ (r : FrameRead). Within m r) is (frame_within front m fits) in
    one_then (front ++ more) (x.0, x.1 ++ more) (whole_stays front more x.1 x.0 is) ∙ ap (put_first x.0) (next x.1 less)

cut_from : (m : ℕ) (front more : List ℕ) → length front ≤ m → frames_in (front ++ more) ≡ after (frames_from m front) more
cut_from zero front more fits = refl
cut_from (suc m) front more fits = cut_step m front more (λ rest less. cut_from m rest more less) fits (frame_at front) refl

pub cut : (front more : List ℕ) → frames_in (front ++ more) ≡ after (frames_in front) more
cut front more = cut_from (length front) front more (omega arith)

none_behind : (xs ys : List Frame) → xs ≡ xs ++ ys → ys ≡ []
none_behind xs [] is = refl
none_behind xs (y ∷ ys) is = absurd (omega (arith, ap (λ (l : List Frame). length l) is, length-append xs (y ∷ ys)))

pub left_has_none : (bytes : List ℕ) → frames_in (frames_in bytes).1 ≡ ([], (frames_in bytes).1)
left_has_none bytes =
    let x = frames_in bytes in
    let again : x ≡ after x [] = ap frames_in (sym (append-nil bytes)) ∙ cut bytes [] in
    let same : frames_in (x.1 ++ []) ≡ frames_in x.1 = ap frames_in (append-nil x.1) in
    let none : (frames_in (x.1 ++ [])).0 ≡ [] = none_behind x.0 (frames_in (x.1 ++ [])).0 (ap (λ (y : Frames). y.0) again) in
    let left : x.1 ≡ (frames_in (x.1 ++ [])).1 = ap (λ (y : Frames). y.1) again in
    sym same ∙ λ i. (none i, sym left i)

by_pieces : (left : List ℕ) (pieces : List (List ℕ)) → frames_in left ≡ ([], left) → frames_by left pieces ≡ frames_in (left ++ concat pieces)
by_pieces left [] none = sym (ap frames_in (append-nil left) ∙ none)
by_pieces left (p ∷ ps) none =
    let x = frames_in (left ++ p) in
    let rest : frames_by x.1 ps ≡ frames_in (x.1 ++ concat ps) = by_pieces x.1 ps (left_has_none (left ++ p)) in
    ap (λ (y : Frames). (x.0 ++ y.0, y.1)) rest ∙ sym (ap frames_in (sym (append_assoc left p (concat ps))) ∙ cut (left ++ p) (concat ps))

pub pieces_are_one : (pieces : List (List ℕ)) → frames_by [] pieces ≡ frames_in (concat pieces)
pieces_are_one pieces = by_pieces [] pieces refl

-- ---- where more bytes are wanted, they are few

short_body : (short : Bool) (len tag : ℕ) (bytes : List ℕ) → nat_lt (length bytes) len ≡ short → body_if short len tag bytes ≡ Err Short → length bytes < len
short_body true len tag bytes short is = ltb-true (length bytes) len short
short_body false len tag bytes short is = absurd cc

abbrev field_if : Bool → ℕ → List ℕ → Result (ℕ × List ℕ) NoFrame
field_if within n bytes = cond within (Ok (n, bytes)) (Err Bad)

short_tag_if : (b : Bool) (k len : ℕ) (bytes : List ℕ) → then_read (field_if b k bytes) (λ t. body_at len t.0 t.1) ≡ Err Short → length bytes < len
short_tag_if true k len bytes is = short_body (nat_lt (length bytes) len) len k bytes refl is
short_tag_if false k len bytes is = absurd cc

short_tag : (len : ℕ) (bytes : List ℕ) → behind_length (len, bytes) ≡ Err Short → length bytes < 4 + len
short_tag len [] is = omega arith
short_tag len (a ∷ []) is = omega arith
short_tag len (a ∷ b ∷ []) is = omega arith
short_tag len (a ∷ b ∷ c ∷ []) is = omega arith
short_tag len (a ∷ b ∷ c ∷ d ∷ bytes) is = let k = u32_at 0 (a ∷ b ∷ c ∷ d ∷ []) in omega (arith, short_tag_if (is_between 1 max_u32 k) k len bytes is)

short_if : (b : Bool) (n : ℕ) (bytes : List ℕ) → is_between 1 max_body n ≡ b → then_read (field_if b n bytes) behind_length ≡ Err Short → length bytes < 4 + max_body
short_if true n bytes within is = omega (arith, short_tag n bytes is, leb-true n max_body (and_parts (nat_le 1 n) (nat_le n max_body) within).1)
short_if false n bytes within is = absurd cc

pub short_is_few : (bytes : List ℕ) → frame_at bytes ≡ Err Short → length bytes < 8 + max_body
short_is_few [] is = omega arith
short_is_few (a ∷ []) is = omega arith
short_is_few (a ∷ b ∷ []) is = omega arith
short_is_few (a ∷ b ∷ c ∷ []) is = omega arith
short_is_few (a ∷ b ∷ c ∷ d ∷ bytes) is = let n = u32_at 0 (a ∷ b ∷ c ∷ d ∷ []) in omega (arith, short_if (is_between 1 max_body n) n bytes refl is)

-- ---- what is spelled is read

field_again : (most n : ℕ) (rest : List ℕ) → 1 ≤ n → n ≤ most → n < 2 ^ 32 → field_at most (u32 n ++ rest) ≡ Ok (n, rest)
field_again most n rest some fits small =
    ap (λ (k : ℕ). number_within most (k, rest)) (from_be_bytes-to_be_bytes_4 n small)
    ∙ cond-true (is_between 1 most n) (Ok (n, rest)) (Err Bad) (and_from (nat_le 1 n) (nat_le n most) (le-leb 1 n some) (le-leb n most fits))

pub spelled_is_read : (tag : ℕ) (body rest : List ℕ) → 1 ≤ tag → tag < 2 ^ 32 → 1 ≤ length body → length body ≤ max_body → frame_at (frame_text tag body ++ rest) ≡ Ok (record { tag = tag; body = body }, rest)
spelled_is_read tag body rest one small some fits =
    let first : field_at max_body (frame_text tag body ++ rest) ≡ Ok (length body, (u32 tag ++ body) ++ rest) = field_again max_body (length body) ((u32 tag ++ body) ++ rest) some fits (omega (arith, fits)) in
    let second : field_at max_u32 ((u32 tag ++ body) ++ rest) ≡ Ok (tag, body ++ rest) = field_again max_u32 tag (body ++ rest) one (omega (arith, small)) small in
    ap (λ r. then_read r behind_length) first
    ∙ ap (λ r. then_read r (λ t. body_at (length body) t.0 t.1)) second
    ∙ ap (λ (s : Bool). body_if s (length body) tag (body ++ rest)) (long_enough (length body) (body ++ rest) (omega (arith, length-append body rest)))
    ∙ ap (λ (b : List ℕ). Ok (record { tag = tag; body = b }, drop (length body) (body ++ rest))) (take_at body rest (length body) refl)
    ∙ ap (λ (r : List ℕ). Ok (record { tag = tag; body = body }, r)) (drop_at body rest (length body) refl)
