-- Why a command by itself is answered so, and how much it has written.
use Rattle.std.proofs.Common.{◌≡◌, ℕ, ◌+◌, List, ◌++◌, [], ◌∷◌, length, Option, Some, None, inl, inr, refl, sym, ◌∙◌, ap, subst, arith, length-append}
use Rattle.std.specs.Prelude.{◌⊎◌, IfOk, IfSome, IsTrue, Result, Ok, Err, option_map}
use Rattle.std.specs.List.{last_or}
use Rattle.volume_layout.specs.Layout.{is_data}
use Rattle.sector_disk.specs.Image.{IsWorn, Windows, open_damage}
use Rattle.sector_disk.specs.Machine.{Ledger, Moment}
use Rattle.sector_disk.proofs.Wear.{worn_refl, worn_trans}
use Rattle.fsd_bytes.specs.declared.key.Key.{Key}
use Rattle.fsd_bytes.specs.declared.pattern.Pattern.{Pattern}
use Rattle.fsd_bytes.specs.declared.refusal.Refusal.{Refusal}
use Rattle.fsd_bytes.specs.declared.refusal.Refusal.TheVariants as Why
use Rattle.fsd_formats.specs.declared.entry.Entry.{Entry}
use Rattle.fsd_files.specs.declared.reply.Reply.{Reply}
use Rattle.fsd_files.specs.declared.reply.Reply.TheVariants as Said
use Rattle.fsd_texts.specs.declared.fault.Fault.{Fault}
use Rattle.volume_contract.specs.Causes.{IsRead, ShowsOfPages, StoodInCopy}
use Rattle.volume_contract.specs.Ends.{IsLater}
use Rattle.volume_contract.specs.State.{Ages, State}
use Rattle.scrub.specs.Walk.{last_key}
use Rattle.volume_turns.specs.Listing.{fitting}
use Rattle.volume_turns.specs.Reasons.{BecauseRead, ComeBehind, HasScrubbed, HasWritten, IsUpTo, ShowedNext, ShowedOf}
use Rattle.volume_turns.specs.Steps.{ended_by, read_ended_by}
use Rattle.volume_turns.proofs.AnsweringLaws.{said_or_fault}
use Rattle.scrub.proofs.WalkLaws.{last_more}
use Rattle.volume_turns.proofs.ListLaws.{fitting_more}

-- ---- what is written

module _ (n : ℕ) (old new : Ledger) where
  pub ended_up_to : (why : Refusal) → IsUpTo n old new → HasWritten n old new (ended_by why)
  ended_up_to (Why.Device s) x = x
  ended_up_to (Why.Down s) x = x
  ended_up_to (Why.Lost a b) x = x
  ended_up_to (Why.Unsound s) x = x
  ended_up_to Why.WornOut x = x
  ended_up_to Why.Memory x = x
  ended_up_to why x = x

  pub refused_written : (why : Refusal) (r : Result Reply Fault) → r ≡ ended_by why → IsUpTo n old new → HasWritten n old new r
  refused_written why r is x = subst (λ (y : Result Reply Fault). HasWritten n old new y) (sym is) (ended_up_to why x)

-- a command that only reads
module _ (old new : Ledger) (same : new ≡ old) where
  pub none_written : new.written ≡ old.written + 0
  none_written = let is = ap (λ (x : Ledger). x.written) same in omega (arith, is)

  pub reads_written : (r : Result Reply Fault) → HasWritten 0 old new r
  reads_written (Ok (Said.Refused why)) = let is = none_written in (omega (arith, is), omega (arith, is))
  reads_written (Ok answer) = none_written
  reads_written (Err fault) = let is = none_written in (omega (arith, is), omega (arith, is))

-- of a scrub that a fault has ended nothing is told
pub nothing_told : (s : State) (old new : Ledger) (why : Refusal) (r : Result Reply Fault) → r ≡ ended_by why → HasScrubbed s old new r
nothing_told s old new why r is = subst (λ (x : Result Reply Fault). HasScrubbed s old new x) (sym is) (by why)
  where
    by : (w : Refusal) → HasScrubbed s old new (ended_by w)
    by (Why.Device n) = tt
    by (Why.Down n) = tt
    by (Why.Lost a b) = tt
    by (Why.Unsound n) = tt
    by Why.WornOut = tt
    by Why.Memory = tt
    by w = tt

-- ---- why

-- of no refusal of these
pub no_reason : (P : Reply → Type 0) (why : Refusal) (r : Result Reply Fault) → r ≡ ended_by why → P (Said.Refused why) → IfOk r P
no_reason P why r is said = subst (λ (x : Result Reply Fault). IfOk x P) (sym is) (said_or_fault P why said)

ages_here : (a : Moment) → Ages a a
ages_here a = record { image = worn_refl (open_damage a.windows) a.image; windows = refl }

pub ages_then : (a b c : Moment) → Ages a b → Ages b c → Ages a c
ages_then a b c x y = record {
  image = worn_trans (open_damage a.windows) a.image b.image c.image x.image (subst (λ (w : Windows). IsWorn (open_damage w) b.image c.image) x.windows y.image);
  windows = y.windows ∙ x.windows;
}

module _ {S : Type 0} (state : S → State) (resident : S → ℕ → Option (List ℕ)) where
  -- what a call's own pages show
  pub showed_here : (v : S) (t : State) (old new : Moment) (Is : Moment → List (List ℕ) → Type 0) → ShowsOfPages (state v) t (resident v) old new (Is old) → ShowedOf state resident (state v) t old new Is
  showed_here v t old new Is shows = record { by = v; same = refl; from = old; aged = ages_here old; shows = shows }

  pub showed_since : (s r t : State) (old mid new : Moment) (Is : Moment → List (List ℕ) → Type 0) → r ≡ s → Ages old mid → ShowedOf state resident r t mid new Is → ShowedOf state resident s t old new Is
  showed_since s r t old mid new Is same aged x = record { by = x.by; same = x.same ∙ same; from = x.from; aged = ages_then old mid x.from aged x.aged; shows = x.shows }

  pub because_since : (key : Key) (s r t : State) (old mid new : Moment) → r ≡ s → Ages old mid → (reply : Reply) → BecauseRead state resident key r t mid new reply → BecauseRead state resident key s t old new reply
  because_since key s r t old mid new same aged (Said.Refused why) x = λ is. showed_since s r t old mid new _ same aged (x is)
  because_since key s r t old mid new same aged (Said.Bytes k bytes) x = showed_since s r t old mid new _ same aged x
  because_since key s r t old mid new same aged (Said.DamagedAt k n) x = subst (λ (y : State). IsTrue (is_data y.layout n)) same x
  because_since key s r t old mid new same aged reply x = tt

  -- of a read that was refused
  pub read_because : (key : Key) (s t : State) (old new : Moment) (why : Refusal) (r : Result Reply Fault) → r ≡ read_ended_by key why → (why ≡ Why.NoSuch → BecauseRead state resident key s t old new (Said.Refused why)) → ((n : ℕ) → why ≡ Why.Damaged n → IsTrue (is_data s.layout n))
      → IfOk r (λ a. BecauseRead state resident key s t old new a)
  read_because key s t old new why r is none inside = subst (λ (x : Result Reply Fault). IfOk x (λ a. BecauseRead state resident key s t old new a)) (sym is) (by why none inside)
    where
      by : (w : Refusal) → (w ≡ Why.NoSuch → BecauseRead state resident key s t old new (Said.Refused w)) → ((n : ℕ) → w ≡ Why.Damaged n → IsTrue (is_data s.layout n)) → IfOk (read_ended_by key w) (λ a. BecauseRead state resident key s t old new a)
      by (Why.Damaged n) so within = within n refl
      by (Why.Device n) so within = tt
      by (Why.Down n) so within = tt
      by (Why.Lost a b) so within = tt
      by (Why.Unsound n) so within = tt
      by Why.WornOut so within = tt
      by Why.Memory so within = tt
      by w so within = λ x. so x x

  pub read_since : (key : Key) (s r t : State) (old mid new : Moment) → r ≡ s → Ages old mid → (x : Result Reply Fault) → IfOk x (λ a. BecauseRead state resident key r t mid new a) → IfOk x (λ a. BecauseRead state resident key s t old new a)
  read_since key s r t old mid new same aged (Ok a) why = because_since key s r t old mid new same aged a why
  read_since key s r t old mid new same aged (Err fault) why = tt

-- ---- what was shown, said at a later moment

module _ {S : Type 0} (state : S → State) (resident : S → ℕ → Option (List ℕ)) (s t : State) (old mid new : Moment) (aged : Ages mid new) where
  read_later : (by : S) (from : Moment) (page : ℕ) (bytes : List ℕ) → IsRead (state by) t (resident by) from mid page bytes → IsRead (state by) t (resident by) from new page bytes
  read_later by from page bytes x = record { within = x.within; source = source_later x.source }
    where
      source_later : (resident by page ≡ Some bytes) ⊎ StoodInCopy (state by) t from mid page bytes → (resident by page ≡ Some bytes) ⊎ StoodInCopy (state by) t from new page bytes
      source_later (inl there) = inl there
      source_later (inr (seen, inl before)) = inr (seen, inl before)
      source_later (inr (seen, inr behind)) =
          let worn = worn_trans (open_damage mid.windows) seen mid.image new.image behind.0 aged.image in
          inr (seen, inr (subst (λ (w : Windows). IsWorn (open_damage w) seen new.image) (sym aged.windows) worn, behind.1))

  each_later : (by : S) (from : Moment) (page : ℕ) (o : Option (List ℕ)) → IfSome o (IsRead (state by) t (resident by) from mid page) → IfSome o (IsRead (state by) t (resident by) from new page)
  each_later by from page None x = tt
  each_later by from page (Some bytes) x = read_later by from page bytes x

  pub showed_later : (Is : Moment → List (List ℕ) → Type 0) → ShowedOf state resident s t old mid Is → ShowedOf state resident s t old new Is
  showed_later Is x = record {
    by = x.by;
    same = x.same;
    from = x.from;
    aged = x.aged;
    shows = record { read = x.shows.read; are_read = λ page. each_later x.by x.from page (x.shows.read page) (x.shows.are_read page); is = x.shows.is };
  }

  pub come_later : (after : Option Key) (entries : List Entry) → ComeBehind state resident s t old mid after entries → ComeBehind state resident s t old new after entries
  come_later after [] come = tt
  come_later after (e ∷ entries) come = (come.0, showed_later _ come.1, come_later (Some e.key) entries come.2)

-- ---- a list on its way

-- one more
pub come_more : {S : Type 0} (state : S → State) (resident : S → ℕ → Option (List ℕ)) (s t : State) (old new : Moment) (o : Option Entry) (met : List Entry) (e : Entry) → ComeBehind state resident s t old new (option_map (λ x. x.key) o) met
    → IsLater (option_map (λ x. x.key) (last_or o met)) (Some e) → ShowedNext state resident s t old new (option_map (λ x. x.key) (last_or o met)) e → ComeBehind state resident s t old new (option_map (λ x. x.key) o) (met ++ e ∷ [])
come_more state resident s t old new o [] e come later shown = (later, shown, tt)
come_more state resident s t old new o (x ∷ met) e come later shown = (come.0, come.1, come_more state resident s t old new (Some x) met e come.2 later shown)

-- so many were met, the last of them with this key, and those that fit are listed; this holds of all that were met
pub record HasMet (Come : List Entry → Type 0) (pattern : Pattern) (count : ℕ) (last : Option Key) (listed : List Entry) : Type 0 where
  pub met : List Entry
  pub come : Come met
  pub many : length met ≡ count
  pub ends : last ≡ last_key met
  pub fit : listed ≡ fitting pattern met

pub met_none : (Come : List Entry → Type 0) (pattern : Pattern) → Come [] → HasMet Come pattern 0 None []
met_none Come pattern come = record { met = []; come = come; many = refl; ends = refl; fit = refl }

pub met_more : (Was Come : List Entry → Type 0) (pattern : Pattern) (count : ℕ) (last : Option Key) (listed : List Entry) (x : HasMet Was pattern count last listed) (e : Entry) → Come (x.met ++ e ∷ []) → (key : Key) → key ≡ e.key → (now : List Entry) → now ≡ listed ++ fitting pattern (e ∷ [])
    → HasMet Come pattern (count + 1) (Some key) now
met_more Was Come pattern count last listed x e come key is now put = record {
  met = x.met ++ e ∷ [];
  come = come;
  many = let sum = length-append x.met (e ∷ []) in let many = x.many in omega (arith, sum, many);
  ends = ap (λ (k : Key). Some k) is ∙ sym (ap (λ (o : Option Entry). option_map (λ y. y.key) o) (last_more x.met None e));
  fit = put ∙ ap (λ (y : List Entry). y ++ fitting pattern (e ∷ [])) x.fit ∙ sym (fitting_more pattern x.met (e ∷ []));
}
