-- What a desk begins with, and what is left where its clients give up all that they have open, one after another.
use Rattle.std.proofs.Common.{◌≡◌, ℕ, suc, zero, ◌-◌, ◌<◌, ◌≤◌, Bool, true, cond, List, [], ◌∷◌, ◌++◌, length, set, drop, refl, sym, ap, subst, ◌∙◌, arith, Option, Some, None}
use Rattle.std.specs.Prelude.{map, option_map, replicate, slice_index_or}
use Rattle.std.proofs.lemmas.List.{length-map}
use Rattle.run_table.specs.declared.run.Run.{Run}
use Rattle.run_table.specs.Space.{contains}
use Rattle.run_table.proofs.SameLaws.{runs_are_same}
use Rattle.run_table.proofs.SectorLaws.{first_there}
use Rattle.sector_disk.specs.Machine.{Moment}
use Rattle.fsd_log.specs.Scan.{Placed}
use Rattle.fsd_files.specs.Desk.{Open, Nothing, Writes, Reads, most_clients, no_clients}
use Rattle.fsd_sound.specs.Mounted.{Mounted}
use Rattle.volume_contract.specs.Pieces.{slices_in, with_opened}
use Rattle.volume_contract.specs.State.{Known, OpenParts, HeldVersion as Held, Stands, State, WrittenDraft, no_readers, none_open}
use Rattle.client_desk.specs.declared.client.Client.{Client}
use Rattle.client_desk.specs.declared.client.Client.TheVariants.{Idle, Writing, Reading}
use Rattle.client_desk.specs.Clients.{Frees, GivesUpPart, IsDesk, IsOf, LeavesNone, ReadsAt, WritesAt, WritesDraftIn, client_at, cleared_clients, no_desk}
use Rattle.client_desk.specs.Ends.{IsOpenIn, ServesOpen, Sits, given_up, open_at, slices_so_far}
use Rattle.client_desk.proofs.DeskLaws.{desk_ends}
use Rattle.client_desk.proofs.PieceLaws.{opened_itself}
use Rattle.client_desk.proofs.SitsLaws.{gone_sits}

-- ---- the front is idle

pub cleared_client : (clients : List Client) (n : ℕ) → client_at (cleared_clients n clients) n ≡ client_at clients n
cleared_client [] zero = refl
cleared_client [] (suc n) = behind n
  where
    behind : (m : ℕ) → client_at (replicate m Idle ++ []) m ≡ Idle
    behind zero = refl
    behind (suc m) = behind m
cleared_client (x ∷ clients) zero = refl
cleared_client (x ∷ clients) (suc n) = cleared_client clients n

pub cleared_next : (clients : List Client) (n : ℕ) → n < length clients → set (cleared_clients n clients) n Idle ≡ cleared_clients (suc n) clients
cleared_next [] n inside = absurd (omega (arith, inside))
cleared_next (x ∷ clients) zero inside = refl
cleared_next (x ∷ clients) (suc n) inside = ap (λ (xs : List Client). Idle ∷ xs) (cleared_next clients n (omega (arith, inside)))

pub cleared_length : (clients : List Client) (n : ℕ) → n ≤ length clients → length (cleared_clients n clients) ≡ length clients
cleared_length clients zero inside = refl
cleared_length [] (suc n) inside = absurd (omega (arith, inside))
cleared_length (x ∷ clients) (suc n) inside = ap (λ (m : ℕ). suc m) (cleared_length clients n (omega (arith, inside)))

idle_front : (n i : ℕ) → client_at (replicate n Idle ++ []) i ≡ Idle
idle_front zero i = refl
idle_front (suc n) zero = refl
idle_front (suc n) (suc i) = idle_front n i

none_dropped : (n : ℕ) → drop {A = Client} n [] ≡ []
none_dropped zero = refl
none_dropped (suc n) = refl

cleared_all : (clients : List Client) (n i : ℕ) → length clients ≤ n → client_at (cleared_clients n clients) i ≡ Idle
cleared_all [] n i all = ap (λ (xs : List Client). client_at (replicate n Idle ++ xs) i) (none_dropped n) ∙ idle_front n i
cleared_all (x ∷ clients) zero i all = absurd (omega (arith, all))
cleared_all (x ∷ clients) (suc n) zero all = refl
cleared_all (x ∷ clients) (suc n) (suc i) all = cleared_all clients n i (omega (arith, all))

-- ---- over any machine

frees_by : (x : Client) (s t : State) → GivesUpPart x s t → Frees s t
frees_by Idle s t gives = λ i. record (gives i) { free = t.free; freed = t.freed; waiting = t.waiting; unfinished = t.unfinished; readers = t.readers }
frees_by (Writing w) s t gives = gives.is ∙ (λ i. record s { free = t.free; freed = t.freed; waiting = t.waiting; unfinished = t.unfinished; readers = sym (ap (λ (y : State). y.readers) gives.is) i })
frees_by (Reading r) s t gives = gives.is ∙ (λ i. record s { free = t.free; freed = t.freed; waiting = t.waiting; unfinished = sym (ap (λ (y : State). y.unfinished) gives.is) i; readers = sym (ap (λ (y : State). y.readers) gives.is) i })

frees_then : (s t u : State) → Frees s t → Frees t u → Frees s u
frees_then s t u first second = second ∙ ap (λ (y : State). record y { free = u.free; freed = u.freed; waiting = u.waiting; unfinished = u.unfinished; readers = u.readers }) first

-- So many of eight clients have given up their parts.
pub record Left (n : ℕ) (clients : List Client) (s t : State) : Type 0 where
  pub size : length clients ≡ 8
  pub desk : IsDesk t (cleared_clients n clients)
  pub frees : Frees s t

pub left_none : (s : State) (clients : List Client) → length clients ≡ 8 → IsDesk s clients → Left 0 clients s s
left_none s clients size desk = record { size = size; desk = desk; frees = refl }

-- one more has
pub gone : (s t u : State) (clients : List Client) (n : ℕ) → n < 8 → Left n clients s t → GivesUpPart (client_at clients n) t u → Left (suc n) clients s u
gone s t u clients n few left gives =
    let inside : n < length clients = omega (arith, few, left.size) in
    record {
      size = left.size;
      desk = subst (λ (xs : List Client). IsDesk u xs) (cleared_next clients n inside)
          (desk_ends t u (cleared_clients n clients) n (omega (arith, inside, cleared_length clients n (omega (arith, inside)))) left.desk (subst (λ (x : Client). GivesUpPart x t u) (sym (cleared_client clients n)) gives));
      frees = frees_then s t u left.frees (frees_by (client_at clients n) t u gives);
    }

pub of_next : (s : State) (clients : List Client) (n : ℕ) → IsDesk s (cleared_clients n clients) → IsOf s (client_at clients n)
of_next s clients n desk = subst (λ (x : Client). IsOf s x) (cleared_client clients n) (desk.each n)

no_sector : (xs : List ℕ) → ((t : ℕ) → contains xs t ≡ true → ⊥) → xs ≡ []
no_sector [] none = refl
no_sector (t ∷ xs) none = absurd (none t (first_there t xs))

no_place : {X : Type 0} (n : ℕ) (places : List (Option X)) → length places ≡ n → ((p : ℕ) (x : X) → slice_index_or places p None ≡ Some x → ⊥) → places ≡ replicate n None
no_place zero [] size none = refl
no_place zero (x ∷ places) size none = absurd (omega (arith, size))
no_place (suc n) [] size none = absurd (omega (arith, size))
no_place {X = X} (suc n) (None ∷ places) size none = ap (λ (xs : List (Option X)). None ∷ xs) (no_place n places (omega (arith, size)) (λ p x there. none (suc p) x there))
no_place (suc n) (Some x ∷ places) size none = absurd (none 0 x refl)

pub leaves_none : (s t : State) (clients : List Client) → length clients ≡ 8 → IsDesk t (cleared_clients 8 clients) → Frees s t → LeavesNone s t
leaves_none s t clients size desk freed = record {
  is = freed;
  unfinished = no_sector t.unfinished (λ n there.
      let own = desk.drafts n there in subst (λ (x : Client). WritesAt x n) (cleared_all clients 8 own.0 (omega (arith, size))) own.1);
  readers = no_place 8 t.readers desk.places (λ place runs there.
      let own = desk.held place runs there in subst (λ (x : Client). ReadsAt x place) (cleared_all clients 8 own.0 (omega (arith, size))) own.1);
}

-- ---- over an honest one

open_in : (o : OpenParts) (x : Client) (y : Open) → ServesOpen o x y → IsOpenIn o x
open_in o Idle y serves = tt
open_in o (Reading r) y serves = tt
open_in o (Writing w) Nothing serves = absurd serves
open_in o (Writing w) (Writes name len runs serial bytes) serves = (slices_so_far len bytes, ap (λ (r : List Run). slices_in o.drafts r) serves.lies ∙ serves.written)
open_in o (Writing w) (Reads key runs bytes place) serves = absurd serves

given_on : (k after : Known) (x : Client) → after ≡ with_opened k after.opened → given_up after x ≡ with_opened k (given_up after x).opened
given_on k after Idle is = is
given_on k after (Writing w) is = ap (λ (z : Known). with_opened z (given_up after (Writing w)).opened) is
given_on k after (Reading r) is = ap (λ (z : Known). with_opened z (given_up after (Reading r)).opened) is

module _ {S : Type 0} (state : S → State) (has : S → Mounted → List Placed → Type 0) where
  -- nobody has anything open
  pub sits_fresh : (k : Known) (v : S) (now : Moment) → k.opened ≡ none_open → Stands state has v k now → Sits state has v no_desk k no_clients now
  sits_fresh k v now none stands = record {
    stands = stands;
    size = refl;
    each = λ i. serves_none 8 i;
    drafts = λ runs slices there. absurd (cc (sym there ∙ ap (λ (o : OpenParts). slices_in o.drafts runs) none));
  }
    where
      serves_none : (n i : ℕ) → ServesOpen k.opened (client_at (replicate n Idle) i) (open_at (replicate n Nothing) i)
      serves_none zero i = tt
      serves_none (suc n) zero = tt
      serves_none (suc n) (suc i) = serves_none n i

  -- So many clients have given up their parts, and else the volume stands as it did.
  pub record HasCleared (n : ℕ) (desk : List Client) (k : Known) (v : S) (now : Moment) : Type 0 where
    pub after : Known
    pub left : List Open
    pub is : after ≡ with_opened k after.opened
    pub sits : Sits state has v (cleared_clients n desk) after left now

  pub cleared_none : (desk : List Client) (k : Known) (opens : List Open) (v : S) (now : Moment) → Sits state has v desk k opens now → HasCleared 0 desk k v now
  cleared_none desk k opens v now sits = record { after = k; left = opens; is = sym (opened_itself state has v k now sits.stands); sits = sits }

  pub cleared_more : (n : ℕ) (desk : List Client) (k : Known) (v w : S) (now : Moment) → length desk ≡ 8 → n < 8 → IsDesk (state v) (cleared_clients n desk)
      → ((z : Known) → IsOpenIn z.opened (client_at desk n) → Stands state has v z now → Stands state has w (given_up z (client_at desk n)) now)
      → HasCleared n desk k v now → HasCleared (suc n) desk k w now
  cleared_more n desk k v w now size inside of gives was = record {
    after = given_up was.after (client_at desk n);
    left = set was.left n Nothing;
    is = given_on k was.after (client_at desk n) was.is;
    sits = subst (λ (m : ℕ). Sits state has w (cleared_clients (suc n) desk) (given_up was.after (client_at desk n)) (set was.left m Nothing) now) (sym place)
        (subst (λ (xs : List Client). Sits state has w xs (given_up was.after (client_at desk n)) (set was.left (suc n - 1) Nothing) now) (cleared_next desk n (omega (arith, size, inside)))
        (gone_sits state has (state v) (suc n) n was.after was.left v w (cleared_clients n desk) now now (omega (arith, inside, many)) many (of.each n) (λ j other. of.apart n j (λ same. other (sym same))) was.sits
        (λ open_so stood. subst (λ (x : Client). Stands state has w (given_up was.after x) now) (sym here) (gives was.after (subst (λ (x : Client). IsOpenIn was.after.opened x) here open_so) stood))
        (client_at desk n) (sym here) place
        (subst (λ (x : Client). IsOpenIn was.after.opened x) here (open_in was.after.opened (client_at (cleared_clients n desk) n) (open_at was.left n) (was.sits.each n)))));
  }
    where
      place : n ≡ suc n - 1
      place = omega arith

      here : client_at (cleared_clients n desk) n ≡ client_at desk n
      here = cleared_client desk n

      many : length (cleared_clients n desk) ≡ most_clients
      many = cleared_length desk n (omega (arith, size, inside)) ∙ size

  -- all have
  pub cleared_stands : (desk : List Client) (k : Known) (v : S) (now : Moment) → length desk ≡ 8 → IsDesk (state v) (cleared_clients 8 desk) → HasCleared 8 desk k v now → Stands state has v (with_opened k none_open) now
  cleared_stands desk k v now size of was =
      subst (λ (o : OpenParts). Stands state has v (with_opened k o) now) (λ i. record { drafts = no_draft was.after.opened.drafts was.sits.drafts i; readers = places i })
      (subst (λ (z : Known). Stands state has v z now) was.is was.sits.stands)
    where
      no_draft : (drafts : List WrittenDraft) → ((runs : List Run) (slices : List (Option (List ℕ))) → slices_in drafts runs ≡ Some slices → (i : ℕ) × WritesDraftIn (client_at (cleared_clients 8 desk) i) runs) → drafts ≡ []
      no_draft [] owned = refl
      no_draft (x ∷ drafts) owned =
          let own = owned x.runs x.slices (ap (λ (b : Bool). cond b (Some x.slices) (slices_in drafts x.runs)) (runs_are_same x.runs)) in
          absurd (subst (λ (y : Client). WritesDraftIn y x.runs) (cleared_all desk 8 own.0 (omega (arith, size))) own.1)

      same : (state v).readers ≡ map (λ (place : Option Held). option_map (λ x. x.runs) place) was.after.opened.readers
      same = was.sits.stands.opened.places

      there : (places : List (Option Held)) (p : ℕ) (x : Held) → slice_index_or places p None ≡ Some x → slice_index_or (map (λ (place : Option Held). option_map (λ y. y.runs) place) places) p None ≡ Some x.runs
      there [] p x is = absurd (cc is)
      there (z ∷ places) zero x is = ap (λ (place : Option Held). option_map (λ y. y.runs) place) is
      there (z ∷ places) (suc p) x is = there places p x is

      places : was.after.opened.readers ≡ no_readers
      places = no_place 8 was.after.opened.readers (sym (length-map was.after.opened.readers (λ (place : Option Held). option_map (λ x. x.runs) place)) ∙ sym (ap (λ (xs : List (Option (List Run))). length xs) same) ∙ of.places)
          (λ p x is.
          let own = of.held p x.runs (ap (λ (xs : List (Option (List Run))). slice_index_or xs p None) same ∙ there was.after.opened.readers p x is) in
          subst (λ (y : Client). ReadsAt y p) (cleared_all desk 8 own.0 (omega (arith, size))) own.1)
