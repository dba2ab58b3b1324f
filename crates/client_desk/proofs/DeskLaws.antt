-- What becomes of a desk's clients over any machine, where one of them changes.
use Rattle.std.proofs.Common.{◌≡◌, ◌⊎◌, ℕ, zero, suc, ◌-◌, ◌<◌, ◌≤◌, ◌≢◌, Bool, true, false, ◌&&◌, ◌||◌, not, cond, List, [], ◌∷◌, length, set, refl, sym, ap, subst, ◌∙◌, inl, inr, arith, Option, Some, None, Result, Ok, Err}
use Rattle.std.proofs.Math.Bool.{and-true, or-false}
use Rattle.std.specs.Prelude.{IsTrue, IsFalse, ◌==◌, replicate, slice_index_or}
use Rattle.std.proofs.lemmas.Bool.{both_ways}
use Rattle.std.proofs.lemmas.Bool.Decides.{eqb_tells}
use Rattle.std.proofs.lemmas.List.{get_or-set_same, get_or-set_other, length-set}
use Rattle.volume_layout.specs.declared.layout.Layout.{Layout}
use Rattle.volume_layout.specs.Layout.{is_data}
use Rattle.run_table.specs.declared.run.Run.{Run}
use Rattle.run_table.specs.RunTable.{same_runs, sectors_of}
use Rattle.run_table.specs.Space.{contains}
use Rattle.run_table.proofs.SameLaws.{same_runs_are}
use Rattle.run_table.proofs.SectorLaws.{first_there, length_of_sectors}
use Rattle.fsd_bytes.specs.declared.refusal.Refusal.{Refusal}
use Rattle.fsd_bytes.specs.declared.refusal.Refusal.TheVariants as Why
use Rattle.fsd_files.specs.Desk.{is_client}
use Rattle.volume_contract.specs.Order.{with_drawn}
use Rattle.volume_contract.specs.Pieces.{Enters, HoldsAt, IsDraft, IsHeldVersion, TakesPlace}
use Rattle.volume_contract.specs.State.{IsForced, State, most_readers, no_readers}
use Rattle.volume_contract.specs.declared.token.Draft.{Draft}
use Rattle.volume_contract.specs.declared.token.Held.{Held}
use Rattle.client_desk.specs.declared.client.Creation.{Creation}
use Rattle.client_desk.specs.declared.client.Reader.{Reader}
use Rattle.client_desk.specs.declared.client.Client.{Client}
use Rattle.client_desk.specs.declared.client.Client.TheVariants.{Idle, Writing, Reading}
use Rattle.client_desk.specs.Clients.{ShareNothing, Continuing, GivesUpPart, GoesOnBehind, IsDesk, IsOf, ReadsAt, WritesAt, no_desk, as_idle, as_reading, as_writing, client_at, found, tested}

-- ---- drafts that are apart

pub first_in : (xs : List ℕ) → 1 ≤ length xs → (t : ℕ) × (contains xs t ≡ true)
first_in [] some = absurd (omega (arith, some))
first_in (t ∷ xs) some = (t, first_there t xs)

-- a creation has its leader's sector at least
pub some_sector : (s : State) (d : Draft) → IsDraft s d → (t : ℕ) × (contains (sectors_of d.runs) t ≡ true)
some_sector s d is = first_in (sectors_of d.runs) (omega (arith, length_of_sectors d.runs, is.size))

-- so two of them have different runs
pub apart_differ : (s : State) (a b : Creation) → IsDraft s a.draft → ((t : ℕ) → IsTrue (contains (sectors_of a.draft.runs) t) → IsFalse (contains (sectors_of b.draft.runs) t)) → same_runs a.draft.runs b.draft.runs ≡ false
apart_differ s a b is apart = by (same_runs a.draft.runs b.draft.runs) refl
  where
    by : (x : Bool) → same_runs a.draft.runs b.draft.runs ≡ x → x ≡ false
    by false e = refl
    by true e =
        let some = some_sector s a.draft is in
        absurd (both_ways (contains (sectors_of b.draft.runs) some.0) (apart some.0 some.1) (ap (λ (runs : List Run). contains (sectors_of runs) some.0) (sym (same_runs_are a.draft.runs b.draft.runs e)) ∙ some.1))

-- ---- what stays open

pub draft_stays : (s t : State) (d : Draft) → ((n : ℕ) → IsTrue (contains (sectors_of d.runs) n) → IsTrue (contains s.unfinished n) → IsTrue (contains t.unfinished n)) → IsDraft s d → IsDraft t d
draft_stays s t d more is = record { small = is.small; size = is.size; few = is.few; some = is.some; differ = is.differ; unfinished = λ n there. more n there (is.unfinished n there) }

pub same_draft : (s t : State) (d : Draft) → t.unfinished ≡ s.unfinished → IsDraft s d → IsDraft t d
same_draft s t d same is = draft_stays s t d (λ n there was. subst (λ (xs : List ℕ). IsTrue (contains xs n)) (sym same) was) is

pub held_stays : (s t : State) (h : Held) → t.layout ≡ s.layout → length t.readers ≡ length s.readers → slice_index_or t.readers h.place None ≡ slice_index_or s.readers h.place None → IsHeldVersion s h → IsHeldVersion t h
held_stays s t h planned size same is = record {
  entry = is.entry;
  within = λ n there. subst (λ (l : Layout). IsTrue (is_data l n)) (sym planned) (is.within n there);
  there = omega (arith, is.there, size);
  runs = same ∙ is.runs;
}

pub same_held : (s t : State) (h : Held) → t.layout ≡ s.layout → t.readers ≡ s.readers → IsHeldVersion s h → IsHeldVersion t h
same_held s t h planned same is = held_stays s t h planned (ap (λ (xs : List (Option (List Run))). length xs) same) (ap (λ (xs : List (Option (List Run))). slice_index_or xs h.place None) same) is

-- What a desk sees of a volume is the same.
pub record LooksSame (s t : State) : Type 0 where
  pub layout : t.layout ≡ s.layout
  pub unfinished : t.unfinished ≡ s.unfinished
  pub readers : t.readers ≡ s.readers

pub of_same : (s t : State) (x : Client) → LooksSame s t → IsOf s x → IsOf t x
of_same s t Idle same is = tt
of_same s t (Writing w) same is = same_draft s t w.draft same.unfinished is
of_same s t (Reading r) same is = same_held s t r.held same.layout same.readers is

-- what another gives up leaves it
pub of_given : (s t : State) (a x : Client) → ShareNothing a x → GivesUpPart a s t → IsOf s x → IsOf t x
of_given s t a Idle apart gives is = tt
of_given s t Idle (Writing w) apart gives is = subst (λ (y : State). IsDraft y w.draft) (sym gives) is
of_given s t Idle (Reading r) apart gives is = subst (λ (y : State). IsHeldVersion y r.held) (sym gives) is
of_given s t (Writing a) (Writing w) apart gives is = draft_stays s t w.draft (λ n there was. gives.unfinished n ∙ by n (contains (sectors_of a.draft.runs) n) refl there ∙ was) is
  where
    by : (n : ℕ) (b : Bool) → contains (sectors_of a.draft.runs) n ≡ b → IsTrue (contains (sectors_of w.draft.runs) n) → (contains s.unfinished n && not b) ≡ contains s.unfinished n
    by n true e there = absurd (both_ways (contains (sectors_of w.draft.runs) n) (apart n e) there)
    by n false e there = and-true (contains s.unfinished n)
of_given s t (Writing a) (Reading r) apart gives is = same_held s t r.held (ap (λ (y : State). y.layout) gives.is) (ap (λ (y : State). y.readers) gives.is) is
of_given s t (Reading a) (Writing w) apart gives is = same_draft s t w.draft (ap (λ (y : State). y.unfinished) gives.is) is
of_given s t (Reading a) (Reading r) apart gives is =
    let readers = ap (λ (y : State). y.readers) gives.is in
    held_stays s t r.held (ap (λ (y : State). y.layout) gives.is) (ap (λ (xs : List (Option (List Run))). length xs) readers ∙ length-set s.readers a.held.place None)
    (ap (λ (xs : List (Option (List Run))). slice_index_or xs r.held.place None) readers ∙ get_or-set_other s.readers a.held.place r.held.place None None (λ same. apart (sym same))) is

-- what is begun leaves it
pub of_taken : (runs : List Run) (s t : State) (x : Client) → TakesPlace runs s t → IsOf s x → IsOf t x
of_taken runs s t Idle takes is = tt
of_taken runs s t (Writing w) takes is = draft_stays s t w.draft (λ n there was. takes.unfinished n ∙ ap (λ (b : Bool). b || contains (sectors_of runs) n) was) is
of_taken runs s t (Reading r) takes is = same_held s t r.held (ap (λ (y : State). y.layout) takes.is) (ap (λ (y : State). y.readers) takes.is) is

-- the end of a creation leaves it
pub of_entered : (a : Creation) (s t : State) (x : Client) → ShareNothing (Writing a) x → Enters a.draft.runs s t → IsOf s x → IsOf t x
of_entered a s t Idle apart enters is = tt
of_entered a s t (Writing w) apart enters is = draft_stays s t w.draft (λ n there was. enters.unfinished n ∙ by n (contains (sectors_of a.draft.runs) n) refl there ∙ was) is
  where
    by : (n : ℕ) (b : Bool) → contains (sectors_of a.draft.runs) n ≡ b → IsTrue (contains (sectors_of w.draft.runs) n) → (contains s.unfinished n && not b) ≡ contains s.unfinished n
    by n true e there = absurd (both_ways (contains (sectors_of w.draft.runs) n) (apart n e) there)
    by n false e there = and-true (contains s.unfinished n)
of_entered a s t (Reading r) apart enters is = same_held s t r.held enters.layout enters.readers is

-- a place that is held isn't an empty one
pub differ : (s : State) (r : Reader) {place : ℕ} → IsHeldVersion s r.held → slice_index_or s.readers place None ≡ None → r.held.place ≢ place
differ s r {place = place} is empty same =
    let both : Some r.held.entry.runs ≡ None = sym is.runs ∙ ap (λ (n : ℕ). slice_index_or s.readers n None) same ∙ empty in
    absurd (cc both)

-- what is held leaves it
pub of_held : (h : Held) (s t : State) (x : Client) → HoldsAt h s t → IsOf s x → IsOf t x
of_held h s t Idle holds is = tt
of_held h s t (Writing w) holds is = same_draft s t w.draft (ap (λ (y : State). y.unfinished) holds.is) is
of_held h s t (Reading r) holds is =
    let readers = ap (λ (y : State). y.readers) holds.is in
    held_stays s t r.held (ap (λ (y : State). y.layout) holds.is) (ap (λ (xs : List (Option (List Run))). length xs) readers ∙ length-set s.readers h.place (Some h.entry.runs))
    (ap (λ (xs : List (Option (List Run))). slice_index_or xs r.held.place None) readers ∙ get_or-set_other s.readers h.place r.held.place (Some h.entry.runs) None (differ s r is holds.empty)) is

-- a force on the way leaves all
pub looks_middle : (s m : State) {b : Bool} → ((b ≡ false) × (m ≡ s)) ⊎ ((b ≡ true) × IsForced s m) → LooksSame s (with_drawn m)
looks_middle s m {b = b} (inl none) = record { layout = ap (λ (y : State). y.layout) none.1; unfinished = ap (λ (y : State). y.unfinished) none.1; readers = ap (λ (y : State). y.readers) none.1 }
looks_middle s m {b = b} (inr some) = record { layout = ap (λ (y : State). y.layout) some.1.is; unfinished = ap (λ (y : State). y.unfinished) some.1.is; readers = ap (λ (y : State). y.readers) some.1.is }

-- ---- one client changes

module _ (clients : List Client) (i : ℕ) (x : Client) (inside : i < length clients) where
  pub client_set : client_at (set clients i x) i ≡ x
  client_set = get_or-set_same clients i x Idle inside

  pub client_other : (j : ℕ) → (j ≡ i → ⊥) → client_at (set clients i x) j ≡ client_at clients j
  client_other j other = get_or-set_other clients i j x Idle other

  -- what is one's is the new client's, or another's as before
  abbrev pub Others : (Is : Client → Type 0) → Type 0
  Others Is = Is x ⊎ ((j : ℕ) × (j ≡ i → ⊥) × Is (client_at clients j))

  pub owned : (Is : Client → Type 0) → Others Is → (j : ℕ) × Is (client_at (set clients i x) j)
  owned Is (inl own) = (i, subst (λ (y : Client). Is y) (sym client_set) own)
  owned Is (inr other) = (other.0, subst (λ (y : Client). Is y) (sym (client_other other.0 other.1)) other.2)

  pub desk_set : (t : State) → IsOf t x
      → ((j : ℕ) → (j ≡ i → ⊥) → IsOf t (client_at clients j))
      → ((j : ℕ) → (j ≡ i → ⊥) → ShareNothing x (client_at clients j) × ShareNothing (client_at clients j) x)
      → ((j k : ℕ) → (j ≡ k → ⊥) → ShareNothing (client_at clients j) (client_at clients k))
      → length t.readers ≡ most_readers
      → ((n : ℕ) → IsTrue (contains t.unfinished n) → Others (λ y. WritesAt y n))
      → ((place : ℕ) (runs : List Run) → slice_index_or t.readers place None ≡ Some runs → Others (λ y. ReadsAt y place))
      → IsDesk t (set clients i x)
  desk_set t here others beside apart places drafts held = record {
    each = λ j. each_by j (eqb_tells j i);
    apart = λ j k other. apart_by j k other (eqb_tells j i) (eqb_tells k i);
    places = places;
    drafts = λ n there. owned (λ y. WritesAt y n) (drafts n there);
    held = λ place runs there. owned (λ y. ReadsAt y place) (held place runs there);
  }
    where
      each_by : (j : ℕ) → (((j == i) ≡ true) × (j ≡ i)) ⊎ (((j == i) ≡ false) × (j ≢ i)) → IsOf t (client_at (set clients i x) j)
      each_by j (inl same) = subst (λ (n : ℕ). IsOf t (client_at (set clients i x) n)) (sym same.1) (subst (λ (y : Client). IsOf t y) (sym client_set) here)
      each_by j (inr other) = subst (λ (y : Client). IsOf t y) (sym (client_other j other.1)) (others j other.1)

      apart_by : (j k : ℕ) → (j ≡ k → ⊥) → (((j == i) ≡ true) × (j ≡ i)) ⊎ (((j == i) ≡ false) × (j ≢ i)) → (((k == i) ≡ true) × (k ≡ i)) ⊎ (((k == i) ≡ false) × (k ≢ i))
          → ShareNothing (client_at (set clients i x) j) (client_at (set clients i x) k)
      apart_by j k differs (inl a) (inl b) = absurd (differs (a.1 ∙ sym b.1))
      apart_by j k differs (inl a) (inr b) =
          subst (λ (n : ℕ). ShareNothing (client_at (set clients i x) n) (client_at (set clients i x) k)) (sym a.1)
          (subst (λ (y : Client). ShareNothing y (client_at (set clients i x) k)) (sym client_set)
          (subst (λ (y : Client). ShareNothing x y) (sym (client_other k b.1)) (beside k b.1).0))
      apart_by j k differs (inr a) (inl b) =
          subst (λ (n : ℕ). ShareNothing (client_at (set clients i x) j) (client_at (set clients i x) n)) (sym b.1)
          (subst (λ (y : Client). ShareNothing (client_at (set clients i x) j) y) (sym client_set)
          (subst (λ (y : Client). ShareNothing y x) (sym (client_other j a.1)) (beside j a.1).1))
      apart_by j k differs (inr a) (inr b) =
          subst (λ (y : Client). ShareNothing y (client_at (set clients i x) k)) (sym (client_other j a.1))
          (subst (λ (y : Client). ShareNothing (client_at clients j) y) (sym (client_other k b.1)) (apart j k differs))

-- nothing is apart from all
pub idle_beside : (x : Client) → ShareNothing Idle x × ShareNothing x Idle
idle_beside Idle = (tt, tt)
idle_beside (Writing w) = (tt, tt)
idle_beside (Reading r) = (tt, tt)

-- ---- whose a part is

-- one's that had it, or another's
pub one_of : (clients : List Client) (i : ℕ) (Is : Client → Type 0) → ((j : ℕ) × Is (client_at clients j)) → Is (client_at clients i) ⊎ ((j : ℕ) × (j ≡ i → ⊥) × Is (client_at clients j))
one_of clients i Is of = by (eqb_tells of.0 i)
  where
    by : (((of.0 == i) ≡ true) × (of.0 ≡ i)) ⊎ (((of.0 == i) ≡ false) × (of.0 ≢ i)) → Is (client_at clients i) ⊎ ((j : ℕ) × (j ≡ i → ⊥) × Is (client_at clients j))
    by (inl same) = inl (subst (λ (n : ℕ). Is (client_at clients n)) same.1 of.1)
    by (inr other) = inr (of.0, other.1, of.1)

-- it is another's where this one has none
pub others_of : (clients : List Client) (i : ℕ) (x : Client) (Is : Client → Type 0) → (Is (client_at clients i) → ⊥) → ((j : ℕ) × Is (client_at clients j)) → Is x ⊎ ((j : ℕ) × (j ≡ i → ⊥) × Is (client_at clients j))
others_of clients i x Is none of = elim (one_of clients i Is of) [
  | inl own ↦ absurd (none own)
  | inr other ↦ inr other
]

-- it stays this one's
pub stays_of : (clients : List Client) (i : ℕ) (x : Client) (Is : Client → Type 0) → (Is (client_at clients i) → Is x) → ((j : ℕ) × Is (client_at clients j)) → Is x ⊎ ((j : ℕ) × (j ≡ i → ⊥) × Is (client_at clients j))
stays_of clients i x Is stays of = elim (one_of clients i Is of) [
  | inl own ↦ inl (stays own)
  | inr other ↦ inr other
]

pub idle_writes : (x : Client) (t : ℕ) → x ≡ Idle → WritesAt x t → ⊥
idle_writes x t idle own = subst (λ (y : Client). WritesAt y t) idle own

pub idle_reads : (x : Client) (place : ℕ) → x ≡ Idle → ReadsAt x place → ⊥
idle_reads x place idle own = subst (λ (y : Client). ReadsAt y place) idle own

-- what is left of the sectors, and was not given back
left_of_both : (b c : Bool) → (b && not c) ≡ true → (b ≡ true) × (c ≡ false)
left_of_both true false is = (refl, refl)
left_of_both true true is = absurd (cc is)
left_of_both false c is = absurd (cc is)

pub kept_sector : (s t : State) (a : Client) → GivesUpPart a s t → (n : ℕ) → IsTrue (contains t.unfinished n) → IsTrue (contains s.unfinished n) × (WritesAt a n → ⊥)
kept_sector s t Idle gives n there = (subst (λ (y : State). IsTrue (contains y.unfinished n)) gives there, λ own. own)
kept_sector s t (Writing w) gives n there =
    let both = left_of_both (contains s.unfinished n) (contains (sectors_of w.draft.runs) n) (sym (gives.unfinished n) ∙ there) in
    (both.0, λ own. both_ways (contains (sectors_of w.draft.runs) n) both.1 own)
kept_sector s t (Reading r) gives n there = (subst (λ (xs : List ℕ). IsTrue (contains xs n)) (ap (λ (y : State). y.unfinished) gives.is) there, λ own. own)

pub kept_place : (s t : State) (a : Client) → IsOf s a → GivesUpPart a s t → (place : ℕ) (runs : List Run) → slice_index_or t.readers place None ≡ Some runs → (slice_index_or s.readers place None ≡ Some runs) × (ReadsAt a place → ⊥)
kept_place s t Idle of gives place runs there = (ap (λ (y : State). slice_index_or y.readers place None) (sym gives) ∙ there, λ own. own)
kept_place s t (Writing w) of gives place runs there = (ap (λ (y : State). slice_index_or y.readers place None) (sym gives.is) ∙ there, λ own. own)
kept_place s t (Reading r) of gives place runs there = by (eqb_tells place r.held.place)
  where
    now : slice_index_or (set s.readers r.held.place None) place None ≡ Some runs
    now = ap (λ (xs : List (Option (List Run))). slice_index_or xs place None) (sym (ap (λ (y : State). y.readers) gives.is)) ∙ there

    by : (((place == r.held.place) ≡ true) × (place ≡ r.held.place)) ⊎ (((place == r.held.place) ≡ false) × (place ≢ r.held.place)) → (slice_index_or s.readers place None ≡ Some runs) × (r.held.place ≡ place → ⊥)
    by (inl same) =
        let gone : Some runs ≡ None = sym now ∙ ap (λ (n : ℕ). slice_index_or (set s.readers r.held.place None) n None) same.1 ∙ get_or-set_same s.readers r.held.place None None of.there in
        absurd (cc gone)
    by (inr other) = (sym (get_or-set_other s.readers r.held.place place None None other.1) ∙ now, λ own. other.1 (sym own))

kept_places : (s t : State) (a : Client) → GivesUpPart a s t → length t.readers ≡ length s.readers
kept_places s t Idle gives = ap (λ (y : State). length y.readers) gives
kept_places s t (Writing w) gives = ap (λ (y : State). length y.readers) gives.is
kept_places s t (Reading r) gives = ap (λ (y : State). length y.readers) gives.is ∙ length-set s.readers r.held.place None

-- ---- the calls

-- the desk of a volume that looks the same
pub desk_same : (s t : State) (clients : List Client) → LooksSame s t → IsDesk s clients → IsDesk t clients
desk_same s t clients same desk = record {
  each = λ i. of_same s t (client_at clients i) same (desk.each i);
  apart = desk.apart;
  places = ap (λ (xs : List (Option (List Run))). length xs) same.readers ∙ desk.places;
  drafts = λ n there. desk.drafts n (subst (λ (xs : List ℕ). IsTrue (contains xs n)) same.unfinished there);
  held = λ place runs there. desk.held place runs (ap (λ (xs : List (Option (List Run))). slice_index_or xs place None) (sym same.readers) ∙ there);
}

-- nobody has anything open
pub desk_fresh : (s : State) → s.unfinished ≡ [] → s.readers ≡ no_readers → IsDesk s no_desk
desk_fresh s unfinished readers = record {
  each = λ i. subst (λ (y : Client). IsOf s y) (sym (all_idle 8 i)) tt;
  apart = λ i j other. subst (λ (y : Client). ShareNothing y (client_at no_desk j)) (sym (all_idle 8 i)) (idle_beside (client_at no_desk j)).0;
  places = ap (λ (xs : List (Option (List Run))). length xs) readers;
  drafts = λ n there. absurd (cc (subst (λ (xs : List ℕ). contains xs n ≡ true) unfinished there));
  held = λ place runs there. absurd (cc (sym there ∙ ap (λ (xs : List (Option (List Run))). slice_index_or xs place None) readers ∙ all_empty 8 place));
}
  where
    all_idle : (n i : ℕ) → client_at (replicate n Idle) i ≡ Idle
    all_idle zero i = refl
    all_idle (suc n) zero = refl
    all_idle (suc n) (suc i) = all_idle n i

    all_empty : (n place : ℕ) → (let none : Option (List Run) = None in slice_index_or (replicate n none) place none ≡ none)
    all_empty zero place = refl
    all_empty (suc n) zero = refl
    all_empty (suc n) (suc place) = all_empty n place

-- a client's part is given up
pub desk_ends : (s t : State) (clients : List Client) (i : ℕ) → i < length clients → IsDesk s clients → GivesUpPart (client_at clients i) s t → IsDesk t (set clients i Idle)
desk_ends s t clients i inside desk gives =
    desk_set clients i Idle inside t tt (λ j other. of_given s t (client_at clients i) (client_at clients j) (desk.apart i j (λ same. other (sym same))) gives (desk.each j))
    (λ j other. idle_beside (client_at clients j)) (λ j k other. desk.apart j k other)
    (kept_places s t (client_at clients i) gives ∙ desk.places)
    (λ n there. let kept = kept_sector s t (client_at clients i) gives n there in others_of clients i Idle (λ y. WritesAt y n) kept.1 (desk.drafts n kept.0))
    (λ place runs there. let kept = kept_place s t (client_at clients i) (desk.each i) gives place runs there in others_of clients i Idle (λ y. ReadsAt y place) kept.1 (desk.held place runs kept.0))

-- a creation is over
pub desk_enters : (s t : State) (clients : List Client) (i : ℕ) (w : Creation) → i < length clients → IsDesk s clients → client_at clients i ≡ Writing w → Enters w.draft.runs s t → IsDesk t (set clients i Idle)
desk_enters s t clients i w inside desk is enters =
    desk_set clients i Idle inside t tt
    (λ j other. of_entered w s t (client_at clients j) (subst (λ (y : Client). ShareNothing y (client_at clients j)) is (desk.apart i j (λ same. other (sym same)))) enters (desk.each j))
    (λ j other. idle_beside (client_at clients j)) (λ j k other. desk.apart j k other)
    (ap (λ (xs : List (Option (List Run))). length xs) enters.readers ∙ desk.places)
    (λ n there.
    let both = left_of_both (contains s.unfinished n) (contains (sectors_of w.draft.runs) n) (sym (enters.unfinished n) ∙ there) in
    others_of clients i Idle (λ y. WritesAt y n) (λ own. both_ways (contains (sectors_of w.draft.runs) n) both.1 (subst (λ (y : Client). WritesAt y n) is own)) (desk.drafts n both.0))
    (λ place runs there. others_of clients i Idle (λ y. ReadsAt y place) (λ own. subst (λ (y : Client). ReadsAt y place) is own)
    (desk.held place runs (ap (λ (xs : List (Option (List Run))). slice_index_or xs place None) (sym enters.readers) ∙ there)))

-- of a client that begins, none has a sector
pub taken_beside : (s t : State) (w : Creation) (x : Client) → TakesPlace w.draft.runs s t → IsOf s x → ShareNothing (Writing w) x × ShareNothing x (Writing w)
taken_beside s t w Idle takes is = (tt, tt)
taken_beside s t w (Reading r) takes is = (tt, tt)
taken_beside s t w (Writing a) takes is = (
  (λ n there. by n (contains (sectors_of a.draft.runs) n) refl (takes.apart n there)),
  (λ n there. by_other n (contains (sectors_of w.draft.runs) n) refl (is.unfinished n there)),
)
  where
    by : (n : ℕ) (b : Bool) → contains (sectors_of a.draft.runs) n ≡ b → IsFalse (contains s.unfinished n) → b ≡ false
    by n true e none = absurd (both_ways (contains s.unfinished n) none (is.unfinished n e))
    by n false e none = refl

    by_other : (n : ℕ) (b : Bool) → contains (sectors_of w.draft.runs) n ≡ b → IsTrue (contains s.unfinished n) → b ≡ false
    by_other n true e there = absurd (both_ways (contains s.unfinished n) (takes.apart n e) there)
    by_other n false e there = refl

pub held_beside : (s t : State) (r : Reader) (x : Client) → HoldsAt r.held s t → IsOf s x → ShareNothing (Reading r) x × ShareNothing x (Reading r)
held_beside s t r Idle holds is = (tt, tt)
held_beside s t r (Writing w) holds is = (tt, tt)
held_beside s t r (Reading a) holds is = (λ same. differ s a is holds.empty (sym same), λ same. differ s a is holds.empty same)

-- a creation is begun
pub desk_takes : (s t : State) (clients : List Client) (i : ℕ) (w : Creation) → i < length clients → IsDesk s clients → client_at clients i ≡ Idle → TakesPlace w.draft.runs s t → IsDraft t w.draft → IsDesk t (set clients i (Writing w))
desk_takes s t clients i w inside desk idle takes is =
    desk_set clients i (Writing w) inside t is (λ j other. of_taken w.draft.runs s t (client_at clients j) takes (desk.each j))
    (λ j other. taken_beside s t w (client_at clients j) takes (desk.each j)) (λ j k other. desk.apart j k other)
    (ap (λ (y : State). length y.readers) takes.is ∙ desk.places)
    (λ n there. by n (contains (sectors_of w.draft.runs) n) refl (sym (takes.unfinished n) ∙ there))
    (λ place runs there. others_of clients i (Writing w) (λ y. ReadsAt y place) (λ own. idle_reads (client_at clients i) place idle own)
    (desk.held place runs (ap (λ (y : State). slice_index_or y.readers place None) (sym takes.is) ∙ there)))
  where
    by : (n : ℕ) (b : Bool) → contains (sectors_of w.draft.runs) n ≡ b → (contains s.unfinished n || b) ≡ true → IsTrue (contains (sectors_of w.draft.runs) n) ⊎ ((j : ℕ) × (j ≡ i → ⊥) × WritesAt (client_at clients j) n)
    by n true e there = inl e
    by n false e there = others_of clients i (Writing w) (λ y. WritesAt y n) (λ own. idle_writes (client_at clients i) n idle own) (desk.drafts n (sym (or-false (contains s.unfinished n)) ∙ there))

-- a version is held
pub desk_holds : (s t : State) (clients : List Client) (i : ℕ) (r : Reader) → i < length clients → IsDesk s clients → client_at clients i ≡ Idle → HoldsAt r.held s t → IsHeldVersion t r.held → IsDesk t (set clients i (Reading r))
desk_holds s t clients i r inside desk idle holds is =
    desk_set clients i (Reading r) inside t is (λ j other. of_held r.held s t (client_at clients j) holds (desk.each j))
    (λ j other. held_beside s t r (client_at clients j) holds (desk.each j)) (λ j k other. desk.apart j k other)
    (ap (λ (xs : List (Option (List Run))). length xs) readers ∙ length-set s.readers r.held.place (Some r.held.entry.runs) ∙ desk.places)
    (λ n there. others_of clients i (Reading r) (λ y. WritesAt y n) (λ own. idle_writes (client_at clients i) n idle own)
    (desk.drafts n (subst (λ (y : State). IsTrue (contains y.unfinished n)) holds.is there)))
    (λ place runs there. by place runs (eqb_tells place r.held.place) (ap (λ (xs : List (Option (List Run))). slice_index_or xs place None) (sym readers) ∙ there))
  where
    readers : t.readers ≡ set s.readers r.held.place (Some r.held.entry.runs)
    readers = ap (λ (y : State). y.readers) holds.is

    by : (place : ℕ) (runs : List Run) → (((place == r.held.place) ≡ true) × (place ≡ r.held.place)) ⊎ (((place == r.held.place) ≡ false) × (place ≢ r.held.place))
        → slice_index_or (set s.readers r.held.place (Some r.held.entry.runs)) place None ≡ Some runs → (r.held.place ≡ place) ⊎ ((j : ℕ) × (j ≡ i → ⊥) × ReadsAt (client_at clients j) place)
    by place runs (inl same) there = inl (sym same.1)
    by place runs (inr other) there =
        others_of clients i (Reading r) (λ y. ReadsAt y place) (λ own. idle_reads (client_at clients i) place idle own)
        (desk.held place runs (sym (get_or-set_other s.readers r.held.place place (Some r.held.entry.runs) None other.1) ∙ there))

-- ---- a reader goes on

pub goes_of : (s : State) (n : ℕ) (a x : Client) → GoesOnBehind n a x → IsOf s a → IsOf s x
goes_of s n Idle x goes is = absurd goes
goes_of s n (Writing w) x goes is = absurd goes
goes_of s n (Reading r) x goes is = subst (λ (z : Client). IsOf s z) (sym goes.0) is

pub goes_apart : (n : ℕ) (a x y : Client) → GoesOnBehind n a x → ShareNothing a y × ShareNothing y a → ShareNothing x y × ShareNothing y x
goes_apart n Idle x y goes apart = absurd goes
goes_apart n (Writing w) x y goes apart = absurd goes
goes_apart n (Reading r) x Idle goes apart = subst (λ (z : Client). ShareNothing z Idle × ShareNothing Idle z) (sym goes.0) (tt, tt)
goes_apart n (Reading r) x (Writing w) goes apart = subst (λ (z : Client). ShareNothing z (Writing w) × ShareNothing (Writing w) z) (sym goes.0) (tt, tt)
goes_apart n (Reading r) x (Reading b) goes apart = subst (λ (z : Client). ShareNothing z (Reading b) × ShareNothing (Reading b) z) (sym goes.0) apart

goes_writes : (n t : ℕ) (a x : Client) → GoesOnBehind n a x → WritesAt a t → WritesAt x t
goes_writes n t Idle x goes own = absurd goes
goes_writes n t (Writing w) x goes own = absurd goes
goes_writes n t (Reading r) x goes own = absurd own

goes_reads : (n place : ℕ) (a x : Client) → GoesOnBehind n a x → ReadsAt a place → ReadsAt x place
goes_reads n place Idle x goes own = absurd goes
goes_reads n place (Writing w) x goes own = absurd goes
goes_reads n place (Reading r) x goes own = subst (λ (z : Client). ReadsAt z place) (sym goes.0) own

pub desk_goes : (s : State) (clients : List Client) (i n : ℕ) (x : Client) → i < length clients → IsDesk s clients → GoesOnBehind n (client_at clients i) x → IsDesk s (set clients i x)
desk_goes s clients i n x inside desk goes =
    desk_set clients i x inside s (goes_of s n (client_at clients i) x goes (desk.each i)) (λ j other. desk.each j)
    (λ j other. goes_apart n (client_at clients i) x (client_at clients j) goes (desk.apart i j (λ same. other (sym same)), desk.apart j i other)) (λ j k other. desk.apart j k other)
    desk.places
    (λ t there. stays_of clients i x (λ y. WritesAt y t) (goes_writes n t (client_at clients i) x goes) (desk.drafts t there))
    (λ place runs there. stays_of clients i x (λ y. ReadsAt y place) (goes_reads n place (client_at clients i) x goes) (desk.held place runs there))

-- ---- a creation goes on

-- the client writes on with the same draft
abbrev pub WritesOn : Client → Client → Type 0
WritesOn (Writing w) x = (y : Creation) × (x ≡ Writing y) × (y.draft ≡ w.draft)
WritesOn other x = ⊥

pub continues_on : (count n : ℕ) (a x : Client) → Continuing count n a x → WritesOn a x
continues_on count n Idle x goes = absurd goes
continues_on count n (Writing w) x goes = (goes.0, goes.1, goes.2.draft)
continues_on count n (Reading r) x goes = absurd goes

on_of : (s : State) (a x : Client) → WritesOn a x → IsOf s a → IsOf s x
on_of s Idle x on is = absurd on
on_of s (Writing w) x on is = subst (λ (z : Client). IsOf s z) (sym on.1) (subst (λ (d : Draft). IsDraft s d) (sym on.2) is)
on_of s (Reading r) x on is = absurd on

on_apart : (a x y : Client) → WritesOn a x → ShareNothing a y × ShareNothing y a → ShareNothing x y × ShareNothing y x
on_apart Idle x y on apart = absurd on
on_apart (Reading r) x y on apart = absurd on
on_apart (Writing w) x Idle on apart = subst (λ (z : Client). ShareNothing z Idle × ShareNothing Idle z) (sym on.1) (tt, tt)
on_apart (Writing w) x (Reading b) on apart = subst (λ (z : Client). ShareNothing z (Reading b) × ShareNothing (Reading b) z) (sym on.1) (tt, tt)
on_apart (Writing w) x (Writing b) on apart =
    subst (λ (z : Client). ShareNothing z (Writing b) × ShareNothing (Writing b) z) (sym on.1)
    (subst (λ (d : Draft). ((t : ℕ) → IsTrue (contains (sectors_of d.runs) t) → IsFalse (contains (sectors_of b.draft.runs) t)) × ((t : ℕ) → IsTrue (contains (sectors_of b.draft.runs) t) → IsFalse (contains (sectors_of d.runs) t))) (sym on.2) apart)

on_writes : (t : ℕ) (a x : Client) → WritesOn a x → WritesAt a t → WritesAt x t
on_writes t Idle x on own = absurd on
on_writes t (Reading r) x on own = absurd on
on_writes t (Writing w) x on own = subst (λ (z : Client). WritesAt z t) (sym on.1) (subst (λ (d : Draft). IsTrue (contains (sectors_of d.runs) t)) (sym on.2) own)

on_reads : (place : ℕ) (a x : Client) → WritesOn a x → ReadsAt a place → ReadsAt x place
on_reads place Idle x on own = absurd on
on_reads place (Reading r) x on own = absurd on
on_reads place (Writing w) x on own = absurd own

pub desk_writes : (s : State) (clients : List Client) (i : ℕ) (x : Client) → i < length clients → IsDesk s clients → WritesOn (client_at clients i) x → IsDesk s (set clients i x)
desk_writes s clients i x inside desk on =
    desk_set clients i x inside s (on_of s (client_at clients i) x on (desk.each i)) (λ j other. desk.each j)
    (λ j other. on_apart (client_at clients i) x (client_at clients j) on (desk.apart i j (λ same. other (sym same)), desk.apart j i other)) (λ j k other. desk.apart j k other)
    desk.places
    (λ t there. stays_of clients i x (λ y. WritesAt y t) (on_writes t (client_at clients i) x on) (desk.drafts t there))
    (λ place runs there. stays_of clients i x (λ y. ReadsAt y place) (on_reads place (client_at clients i) x on) (desk.held place runs there))

-- ---- what was found

-- the client has this number, and what it has open is such
pub found_place : (as_such : (c i : ℕ) → Client → Result ℕ Refusal) (clients : List Client) (c i : ℕ) → ((n : ℕ) (x : Client) (k : ℕ) → as_such c n x ≡ Ok k → k ≡ n) → found as_such clients c ≡ Ok i
    → (is_client c ≡ true) × (i ≡ c - 1) × (as_such c (c - 1) (client_at clients (c - 1)) ≡ Ok i)
found_place as_such clients c i says is = by (is_client c) refl is
  where
    by : (b : Bool) → is_client c ≡ b → tested as_such clients c (cond b (Ok (c - 1)) (Err (Why.BadClient c))) ≡ Ok i → (is_client c ≡ true) × (i ≡ c - 1) × (as_such c (c - 1) (client_at clients (c - 1)) ≡ Ok i)
    by true e is = (e, says (c - 1) (client_at clients (c - 1)) i is, is)
    by false e is = absurd (cc is)

pub idle_says : (c n : ℕ) (x : Client) (k : ℕ) → as_idle c n x ≡ Ok k → (k ≡ n) × (x ≡ Idle)
idle_says c n Idle k is = (cc, refl)
idle_says c n (Writing w) k is = absurd (cc is)
idle_says c n (Reading r) k is = absurd (cc is)

pub writing_says : (c n : ℕ) (x : Client) (k : ℕ) → as_writing c n x ≡ Ok k → (k ≡ n) × ((w : Creation) × (x ≡ Writing w))
writing_says c n Idle k is = absurd (cc is)
writing_says c n (Writing w) k is = (cc, (w, refl))
writing_says c n (Reading r) k is = absurd (cc is)

pub reading_says : (c n : ℕ) (x : Client) (k : ℕ) → as_reading c n x ≡ Ok k → (k ≡ n) × ((r : Reader) × (x ≡ Reading r))
reading_says c n Idle k is = absurd (cc is)
reading_says c n (Writing w) k is = absurd (cc is)
reading_says c n (Reading r) k is = (cc, (r, refl))

-- Where it is so the client is the one at the place.
pub record IsFoundAt (clients : List Client) (c i : ℕ) (Is : Client → Type 0) : Type 0 where
  pub client : is_client c ≡ true
  pub place : i ≡ c - 1
  pub is : Is (client_at clients i)

pub found_idle : (clients : List Client) (c i : ℕ) → found as_idle clients c ≡ Ok i → IsFoundAt clients c i (λ x. x ≡ Idle)
found_idle clients c i is =
    let at = found_place as_idle clients c i (λ n x k e. (idle_says c n x k e).0) is in
    record { client = at.0; place = at.1; is = ap (λ (n : ℕ). client_at clients n) at.1 ∙ (idle_says c (c - 1) (client_at clients (c - 1)) i at.2).1 }

pub found_writing : (clients : List Client) (c i : ℕ) → found as_writing clients c ≡ Ok i → IsFoundAt clients c i (λ x. (w : Creation) × (x ≡ Writing w))
found_writing clients c i is =
    let at = found_place as_writing clients c i (λ n x k e. (writing_says c n x k e).0) is in
    let such = (writing_says c (c - 1) (client_at clients (c - 1)) i at.2).1 in
    record { client = at.0; place = at.1; is = (such.0, ap (λ (n : ℕ). client_at clients n) at.1 ∙ such.1) }

pub found_reading : (clients : List Client) (c i : ℕ) → found as_reading clients c ≡ Ok i → IsFoundAt clients c i (λ x. (r : Reader) × (x ≡ Reading r))
found_reading clients c i is =
    let at = found_place as_reading clients c i (λ n x k e. (reading_says c n x k e).0) is in
    let such = (reading_says c (c - 1) (client_at clients (c - 1)) i at.2).1 in
    record { client = at.0; place = at.1; is = (such.0, ap (λ (n : ℕ). client_at clients n) at.1 ∙ such.1) }
