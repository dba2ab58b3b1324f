-- What the grammar accepts stays so by each call of a cache, where the mark of a frame goes with its bytes.
use Rattle.std.proofs.Common.{◌≡◌, ◌≢◌, ℕ, zero, suc, ◌<◌, ◌⊎◌, true, cond, List, [], ◌∷◌, replicate, option_map, is_some, Option, Some, None, Result, Ok, Err, IsSome, refl, sym, ap, ◌∙◌, subst, inl, inr, arith, eqb-true}
use Rattle.std.specs.Prelude.{nat_eq, slice_index_or, slice_set, is_ok, IfOk, IfErr}
use Rattle.std.specs.Map.{lookup}
use Rattle.std.proofs.lemmas.Bool.{eqb-false, true≢false}
use Rattle.std.proofs.lemmas.List.{get_or-set_other}
use Rattle.fsd_formats.specs.NamePage.{Content, read_page}
use Rattle.fsd_formats.specs.declared.page.Page.{Page}
use Rattle.name_page.specs.declared.fault.PageFault.{PageFault}
use Rattle.name_page.specs.Reading.{head_of}
use Rattle.page_cache.specs.Accepted.{HasAccepted}
use Rattle.page_cache.specs.Cache.{Held, CacheValue, IsCache, held, frame_for, leaver, staying, used, entered_page, page_written, with_pins}
use Rattle.page_cache.proofs.Entries.{by_bool, by_option}
use Rattle.page_cache.proofs.CacheLaws.{altered_lookup, frames_apart}
use Rattle.page_cache.proofs.NewestLaws.{Stood, stood, used_held}

-- ---- marks

-- no frame is marked
abbrev pub no_marks : ℕ → List ℕ
no_marks n = replicate n 0

none_marked : (n f : ℕ) → slice_index_or (no_marks n) f 0 ≡ 0
none_marked zero f = refl
none_marked (suc n) zero = refl
none_marked (suc n) (suc f) = none_marked n f

unmarked : (marks : List ℕ) (f : ℕ) → slice_index_or (slice_set marks f 0) f 0 ≡ 0
unmarked [] f = refl
unmarked (x ∷ marks) zero = refl
unmarked (x ∷ marks) (suc f) = unmarked marks f

no_mark : {P : Type 0} (n : ℕ) → n ≡ 0 → 0 < n → P
no_mark n is some = absurd (omega (arith, is, some))

-- where no frame is marked
pub none_accepted : (n : ℕ) (c : CacheValue) → HasAccepted (no_marks n) c
none_accepted n c page h is some = no_mark (slice_index_or (no_marks n) h.frame 0) (none_marked n h.frame) some

-- the mark of another frame is what it was
module _ (marks : List ℕ) (frame n : ℕ) (page : ℕ) (h : Held) (other : h.frame ≢ frame) where
  same_mark : slice_index_or (slice_set marks frame n) h.frame 0 ≡ slice_index_or marks h.frame 0
  same_mark = get_or-set_other marks frame h.frame n 0 other

  by_other : (0 < slice_index_or marks h.frame 0 → IsSome (read_page page (slice_index_or marks h.frame 0) h.bytes))
      → 0 < slice_index_or (slice_set marks frame n) h.frame 0 → IsSome (read_page page (slice_index_or (slice_set marks frame n) h.frame 0) h.bytes)
  by_other was some = subst (λ (k : ℕ). IsSome (read_page page k h.bytes)) (sym same_mark) (was (subst (λ (k : ℕ). 0 < k) same_mark some))

-- where a frame is not marked any more
unmarked_at : (marks : List ℕ) (frame : ℕ) (f : ℕ) {P : Type 0} → f ≡ frame → 0 < slice_index_or (slice_set marks frame 0) f 0 → P
unmarked_at marks frame f is some =
    no_mark (slice_index_or (slice_set marks frame 0) f 0) (ap (λ (k : ℕ). slice_index_or (slice_set marks frame 0) k 0) is ∙ unmarked marks frame) some

pub unmarked_accepted : (marks : List ℕ) (frame : ℕ) (c : CacheValue) → HasAccepted marks c → HasAccepted (slice_set marks frame 0) c
unmarked_accepted marks frame c all page h is some = by_bool (nat_eq h.frame frame)
    (λ t. unmarked_at marks frame h.frame (eqb-true h.frame frame t) some)
    (λ t. by_other marks frame 0 page h (eqb-false h.frame frame t) (all page h is) some)

-- ---- use and pins

pub used_accepted : (marks : List ℕ) (page : ℕ) (c : CacheValue) → HasAccepted marks c → HasAccepted marks (used page c)
used_accepted marks page c all q h is some = all q h (sym (used_held page c q) ∙ is) some

module _ (marks : List ℕ) (page pins : ℕ) (c : CacheValue) where
  abbrev set_pins : Held → Held
  set_pins x = record x { pins = pins }

  abbrev Fits : ℕ → Held → Type 0
  Fits q x = 0 < slice_index_or marks x.frame 0 → IsSome (read_page q (slice_index_or marks x.frame 0) x.bytes)

  pub pinned_accepted : HasAccepted marks c → HasAccepted marks (with_pins page pins c)
  pinned_accepted all q h is = by_option (held c q)
      (λ x on. by_bool (nat_eq page q)
      (λ t. let pinned : Some (set_pins x) ≡ Some h = rw (t, on) at here in
      let one : set_pins x ≡ h = cc in
      subst (Fits q) one (all q x on))
      (λ t. let stays : Some x ≡ Some h = rw (t, on) at here in
      let one : x ≡ h = cc in
      subst (Fits q) one (all q x on)))
      (λ none. by_bool (nat_eq page q)
      (λ t. let gone : None ≡ Some h = rw (t, none) at here in cc)
      (λ t. let gone : None ≡ Some h = rw (t, none) at here in cc))
    where
      here : cond (nat_eq page q) (option_map set_pins (held c q)) (held c q) ≡ Some h
      here = sym (altered_lookup page set_pins q c.resident) ∙ is

-- ---- a frame has other bytes, and is not marked

module _ (marks : List ℕ) (page : ℕ) (bytes : List ℕ) (c : CacheValue) where
  abbrev set_bytes : Held → Held
  set_bytes x = record x { bytes = bytes }

  pub written_accepted : (x : Held) → held c page ≡ Some x → HasAccepted marks c → HasAccepted (slice_set marks x.frame 0) (page_written page bytes c)
  written_accepted x on all q h is some = by_bool (nat_eq page q)
      (λ t. let there : held c q ≡ Some x = subst (λ (k : ℕ). held c k ≡ Some x) (eqb-true page q t) on in
      let written : Some (set_bytes x) ≡ Some h = rw (t, there) at here in
      let one : set_bytes x ≡ h = cc in
      unmarked_at marks x.frame h.frame (ap (λ (y : Held). y.frame) (sym one)) some)
      (λ t. let stays : held c q ≡ Some h = rw t at here in unmarked_accepted marks x.frame c all q h stays some)
    where
      here : cond (nat_eq page q) (option_map set_bytes (held c q)) (held c q) ≡ Some h
      here = sym (altered_lookup page set_bytes q c.resident) ∙ is

  abbrev new : Held
  new = record { frame = frame_for c; bytes = bytes; pins = 0 }

  pub entered_accepted : (frame : ℕ) → IsCache c → frame ≡ frame_for c → HasAccepted marks c → HasAccepted (slice_set marks frame 0) (entered_page page bytes c)
  entered_accepted frame whole at all q h is some = by_bool (nat_eq q page)
      (λ t. let enters : Some new ≡ Some h = rw t at is in
      let one : new ≡ h = cc in
      unmarked_at marks frame h.frame (ap (λ (y : Held). y.frame) (sym one) ∙ sym at) some)
      (λ t. let stays : lookup (nat_eq q) (staying (leaver c) c.resident) ≡ Some h = rw t at is in by_stood stays (stood c whole q))
    where
      by_stood : lookup (nat_eq q) (staying (leaver c) c.resident) ≡ Some h → Stood c (staying (leaver c) c.resident) q → IsSome (read_page q (slice_index_or (slice_set marks frame 0) h.frame 0) h.bytes)
      by_stood stays (inl same) = unmarked_accepted marks frame c all q h (sym same ∙ stays) some
      by_stood stays (inr out) = absurd (true≢false (ap is_some (sym stays ∙ out.0)))

-- ---- a page that is read is marked

-- a mark that is set stands, unless there is no place for it
set_mark : (marks : List ℕ) (f n : ℕ) → (slice_index_or (slice_set marks f n) f 0 ≡ n) ⊎ (slice_index_or (slice_set marks f n) f 0 ≡ 0)
set_mark [] f n = inr refl
set_mark (x ∷ marks) zero n = inl refl
set_mark (x ∷ marks) (suc f) n = set_mark marks f n

module _ (marks : List ℕ) (c : CacheValue) (whole : IsCache c) (all : HasAccepted marks c) (page pages : ℕ) (x : Held) (on : held c page ≡ Some x) where
  abbrev mark : ℕ → ℕ
  mark f = slice_index_or (slice_set marks x.frame pages) f 0

  pub marked_accepted : IsSome (read_page page pages x.bytes) → HasAccepted (slice_set marks x.frame pages) c
  marked_accepted accepts q h is some = by_bool (nat_eq h.frame x.frame)
      (λ t. by_bool (nat_eq q page)
      (λ u. here (eqb-true q page u) (set_mark marks x.frame pages))
      (λ u. absurd (frames_apart c.resident q page h x whole.frames is on (eqb-false q page u) (eqb-true h.frame x.frame t))))
      (λ t. by_other marks x.frame pages q h (eqb-false h.frame x.frame t) (all q h is) some)
    where
      here : q ≡ page → (mark x.frame ≡ pages) ⊎ (mark x.frame ≡ 0) → IsSome (read_page q (mark h.frame) h.bytes)
      here same set =
          let there : held c page ≡ Some h = subst (λ (k : ℕ). held c k ≡ Some h) same is in
          let both : Some x ≡ Some h = sym on ∙ there in
          let one : x ≡ h = cc in
          subst (λ (y : Held). IsSome (read_page q (mark y.frame) y.bytes)) one (at_page same one set)
        where
          at_page : q ≡ page → x ≡ h → (mark x.frame ≡ pages) ⊎ (mark x.frame ≡ 0) → IsSome (read_page q (mark x.frame) x.bytes)
          at_page same one (inl is_set) = subst (λ (k : ℕ). IsSome (read_page k (mark x.frame) x.bytes)) (sym same) (subst (λ (k : ℕ). IsSome (read_page page k x.bytes)) (sym is_set) accepts)
          at_page same one (inr none) = no_mark (mark x.frame) none (subst (λ (y : Held). 0 < mark y.frame) (sym one) some)

-- what a page's reading tells
pub read_tells : (page pages : ℕ) (bytes : List ℕ) (r : Result Page PageFault) → IfOk r (λ head. option_map head_of (read_page page pages bytes) ≡ Some head) → IfErr r (λ fault. read_page page pages bytes ≡ None)
    → is_ok r ≡ is_some (read_page page pages bytes)
read_tells page pages bytes (Ok head) ok err = some (read_page page pages bytes) ok
  where
    some : (o : Option Content) → option_map head_of o ≡ Some head → true ≡ is_some o
    some (Some x) e = refl
    some None e = absurd (let no = e in cc)
read_tells page pages bytes (Err fault) ok err = ap is_some (sym err)
