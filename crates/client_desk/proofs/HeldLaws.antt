-- A volume holds what the clients of its desk read.
use Rattle.std.proofs.Common.{◌≡◌, ℕ, suc, zero, true, List, [], ◌∷◌, refl, sym, ap, subst, ◌∙◌, inl, inr, Option, Some, None}
use Rattle.std.proofs.lemmas.Bool.Decides.{same_from_decides}
use Rattle.std.specs.Prelude.{map, option_map, slice_index_or}
use Rattle.std.proofs.lemmas.Bool.{or_cases, or_left, or_right}
use Rattle.run_table.specs.declared.run.Run.{Run}
use Rattle.run_table.specs.RunTable.{sectors_of}
use Rattle.run_table.specs.Space.{contains}
use Rattle.run_table.proofs.SectorLaws.{contains-append}
use Rattle.fsd_bytes.specs.declared.key.Key.{Key}
use Rattle.sector_disk.specs.Machine.{Moment}
use Rattle.fsd_log.specs.Scan.{Placed}
use Rattle.fsd_files.specs.Desk.{SessionOutcome, Open, Nothing, Writes, Reads, Session}
use Rattle.fsd_files.specs.declared.reply.Reply.{Reply}
use Rattle.fsd_files.specs.Volume.{is_in}
use Rattle.fsd_runs.specs.Sessions.{HoldsRead, read_by}
use Rattle.fsd_sound.specs.Mounted.{Mounted}
use Rattle.volume_contract.specs.State.{Known, HeldVersion as Held, State, readings}
use Rattle.client_desk.specs.declared.client.Client.{Client}
use Rattle.client_desk.specs.declared.client.Client.TheVariants.{Idle, Writing, Reading}
use Rattle.client_desk.specs.Clients.{IsDesk, ReadsAt, client_at}
use Rattle.client_desk.specs.Ends.{AnswersHeld, ServesOpen, Sits, open_at, session_of}
use Rattle.client_desk.proofs.SitsLaws.{AnswersBy, held_is}

-- ---- at the places

-- At one of the places is a version with this sector.
pub record AtPlace (places : List (Option Held)) (t : ℕ) : Type 0 where
  pub place : ℕ
  pub reading : Held
  pub is : slice_index_or places place None ≡ Some reading
  pub has : contains (sectors_of reading.runs) t ≡ true

at_place : (places : List (Option Held)) (t : ℕ) → is_in (map (λ x. x.runs) (readings places)) t ≡ true → AtPlace places t
at_place [] t there = absurd (cc there)
at_place (None ∷ places) t there = let more = at_place places t there in record { place = suc more.place; reading = more.reading; is = more.is; has = more.has }
at_place (Some x ∷ places) t there =
    elim (or_cases (contains (sectors_of x.runs) t) (is_in (map (λ z. z.runs) (readings places)) t) (sym (contains-append (sectors_of x.runs) _ t) ∙ there)) [
      | inl here ↦ record { place = 0; reading = x; is = refl; has = here }
      | inr later ↦ (let more = at_place places t later in record { place = suc more.place; reading = more.reading; is = more.is; has = more.has })
    ]

place_at : (places : List (Option Held)) (place t : ℕ) (x : Held) → slice_index_or places place None ≡ Some x → contains (sectors_of x.runs) t ≡ true → is_in (map (λ z. z.runs) (readings places)) t ≡ true
place_at [] place t x is has = absurd (cc is)
place_at (None ∷ places) zero t x is has = absurd (cc is)
place_at (None ∷ places) (suc place) t x is has = place_at places place t x is has
place_at (Some z ∷ places) zero t x is has =
    let same : z ≡ x = cc is in
    contains-append (sectors_of z.runs) _ t ∙ or_left (contains (sectors_of z.runs) t) _ (ap (λ (y : Held). contains (sectors_of y.runs) t) same ∙ has)
place_at (Some z ∷ places) (suc place) t x is has =
    contains-append (sectors_of z.runs) _ t ∙ or_right (contains (sectors_of z.runs) t) _ (place_at places place t x is has)

-- ---- by the clients

-- One of them reads a version with this sector.
pub record ByClient (opens : List Open) (t : ℕ) : Type 0 where
  pub client : ℕ
  pub key : Key
  pub runs : List Run
  pub bytes : List ℕ
  pub from : ℕ
  pub is : open_at opens client ≡ Reads key runs bytes from
  pub has : contains (sectors_of runs) t ≡ true

one_more : (y : Open) (opens : List Open) (t : ℕ) → ByClient opens t → ByClient (y ∷ opens) t
one_more y opens t more = record { client = suc more.client; key = more.key; runs = more.runs; bytes = more.bytes; from = more.from; is = more.is; has = more.has }

by_client : (opens : List Open) (t : ℕ) → is_in (read_by opens) t ≡ true → ByClient opens t
by_client [] t there = absurd (cc there)
by_client (Nothing ∷ opens) t there = one_more Nothing opens t (by_client opens t there)
by_client (Writes a l r s b ∷ opens) t there = one_more (Writes a l r s b) opens t (by_client opens t there)
by_client (Reads a r b p ∷ opens) t there =
    elim (or_cases (contains (sectors_of r) t) (is_in (read_by opens) t) (sym (contains-append (sectors_of r) _ t) ∙ there)) [
      | inl here ↦ record { client = 0; key = a; runs = r; bytes = b; from = p; is = refl; has = here }
      | inr later ↦ one_more (Reads a r b p) opens t (by_client opens t later)
    ]

abbrev read_runs : Open → List Run
read_runs Nothing = []
read_runs (Writes a l r s b) = []
read_runs (Reads a r b p) = r

client_by : (opens : List Open) (i t : ℕ) → contains (sectors_of (read_runs (open_at opens i))) t ≡ true → is_in (read_by opens) t ≡ true
client_by [] i t has = absurd (cc has)
client_by (Nothing ∷ opens) zero t has = absurd (cc has)
client_by (Nothing ∷ opens) (suc i) t has = client_by opens i t has
client_by (Writes a l r s b ∷ opens) zero t has = absurd (cc has)
client_by (Writes a l r s b ∷ opens) (suc i) t has = client_by opens i t has
client_by (Reads a r b p ∷ opens) zero t has = contains-append (sectors_of r) _ t ∙ or_left (contains (sectors_of r) t) _ has
client_by (Reads a r b p ∷ opens) (suc i) t has = contains-append (sectors_of r) _ t ∙ or_right (contains (sectors_of r) t) _ (client_by opens i t has)

-- ---- both

module _ {S : Type 0} (state : S → State) (has : S → Mounted → List Placed → Type 0) where
  pub holds_read : (v : S) (desk : List Client) (k : Known) (opens : List Open) (now : Moment) → IsDesk (state v) desk → Sits state has v desk k opens now → HoldsRead (session_of k opens)
  holds_read v desk k opens now of sits t =
      ap (λ (xs : List (List Run)). is_in xs t) (held_is state has v k now sits.stands)
      ∙ same_from_decides {P = is_in (read_by opens) t ≡ true} (is_in (map (λ x. x.runs) (readings k.opened.readers)) t) (is_in (read_by opens) t) (to, from) (λ is. is, λ is. is)
    where
      same : (state v).readers ≡ map (λ (place : Option Held). option_map (λ x. x.runs) place) k.opened.readers
      same = sits.stands.opened.places

      there : (places : List (Option Held)) (p : ℕ) (x : Held) → slice_index_or places p None ≡ Some x → slice_index_or (map (λ (place : Option Held). option_map (λ y. y.runs) place) places) p None ≡ Some x.runs
      there [] p x is = absurd (cc is)
      there (z ∷ places) zero x is = ap (λ (place : Option Held). option_map (λ y. y.runs) place) is
      there (z ∷ places) (suc p) x is = there places p x is

      served : (c : Client) (y : Open) (place : ℕ) (x : Held) → ServesOpen k.opened c y → ReadsAt c place → slice_index_or k.opened.readers place None ≡ Some x → read_runs y ≡ x.runs
      served Idle y place x serves own is = absurd own
      served (Writing w) y place x serves own is = absurd own
      served (Reading r) Nothing place x serves own is = absurd serves
      served (Reading r) (Writes a l s u b) place x serves own is = absurd serves
      served (Reading r) (Reads a s b p) place x serves own is =
          let both : Some (record { runs = s; bytes = b }) ≡ Some x = sym serves.there ∙ ap (λ (n : ℕ). slice_index_or k.opened.readers n None) own ∙ is in
          let one : record { runs = s; bytes = b } ≡ x = cc both in
          ap (λ (z : Held). z.runs) one

      to : is_in (map (λ x. x.runs) (readings k.opened.readers)) t ≡ true → is_in (read_by opens) t ≡ true
      to is =
          let at = at_place k.opened.readers t is in
          let own = of.held at.place at.reading.runs (ap (λ (xs : List (Option (List Run))). slice_index_or xs at.place None) same ∙ there k.opened.readers at.place at.reading at.is) in
          client_by opens own.0 t (ap (λ (runs : List Run). contains (sectors_of runs) t) (served (client_at desk own.0) (open_at opens own.0) at.place at.reading (sits.each own.0) own.1 at.is) ∙ at.has)

      reads_there : (c : Client) (a : Key) (r : List Run) (b : List ℕ) (p : ℕ) → ServesOpen k.opened c (Reads a r b p) → contains (sectors_of r) t ≡ true → is_in (map (λ x. x.runs) (readings k.opened.readers)) t ≡ true
      reads_there Idle a r b p serves in_runs = absurd serves
      reads_there (Writing w) a r b p serves in_runs = absurd serves
      reads_there (Reading z) a r b p serves in_runs = place_at k.opened.readers z.held.place t (record { runs = r; bytes = b }) serves.there in_runs

      from : is_in (read_by opens) t ≡ true → is_in (map (λ x. x.runs) (readings k.opened.readers)) t ≡ true
      from is =
          let one = by_client opens t is in
          reads_there (client_at desk one.client) one.key one.runs one.bytes one.from (subst (λ (y : Open). ServesOpen k.opened (client_at desk one.client) y) one.is (sits.each one.client)) one.has

  -- and so it answers by what they read
  pub answers_held : (outcome : List (List Run) → Session → SessionOutcome) (reply : Reply) (k : Known) (opens : List Open) (v : S) (desk : List Client) (now : Moment)
      → IsDesk (state v) desk → AnswersBy state has outcome reply k opens v desk now → AnswersHeld state has outcome reply k opens v desk now
  answers_held outcome reply k opens v desk now of by = record {
    held = by.held;
    answers = by.answers;
    is = by.is;
    hold = holds_read v desk by.answers.after by.answers.left now of by.answers.sits;
  }
