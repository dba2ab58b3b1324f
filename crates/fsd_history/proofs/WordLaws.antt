-- What puts, gets and lists say and do, in words of files; and histories of these, of upgrades and growths, of dumps and
-- of restores.
use Rattle.std.proofs.Common.{◌≡◌, ◌⊎◌, inl, inr, ℕ, zero, suc, Bool, true, false, List, [], ◌∷◌, ◌++◌, length, take, filter, Option, Some, None, refl, sym, ap, subst, ◌∙◌, arith}
use Rattle.std.specs.Prelude.{nat_lt, if◌then◌else◌}
use Rattle.std.specs.List.{fold}
use Rattle.std.specs.FinMap.{find}
use Rattle.std.proofs.lemmas.List.{append-nil, take_all}
use Rattle.std.proofs.Math.Seq.{take-nil}
use Rattle.fsd_bytes.specs.declared.key.Key.{Key}
use Rattle.fsd_bytes.specs.declared.pattern.Pattern.{Pattern}
use Rattle.fsd_bytes.specs.declared.pattern.Pattern.TheVariants.{Prefix}
use Rattle.fsd_bytes.specs.Keys.{fits, key_cmp}
use Rattle.sector_disk.specs.declared.machine.Machine.{Ghosts}
use Rattle.sector_disk.specs.Machine.{Moment}
use Rattle.fsd_files.specs.Answers.{got}
use Rattle.fsd_files.specs.Disk.{Image}
use Rattle.fsd_files.specs.Files.{Change, File, Files, step}
use Rattle.fsd_files.specs.declared.reply.Reply.{Reply}
use Rattle.fsd_files.specs.Volume.{Volume}
use Rattle.fsd_texts.specs.declared.command.Command.{Command}
use Rattle.fsd_texts.specs.declared.command.Command.TheVariants as Word
use Rattle.fsd_texts.specs.declared.fault.Fault.TheVariants as Ended
use Rattle.fsd_texts.specs.declared.script_command.ScriptCommand.TheVariants.{Plain}
use Rattle.fsd_texts.specs.Script.{max_input}
use Rattle.fsd_runs.specs.declared.request.Request.{Request}
use Rattle.fsd_runs.specs.declared.request.Request.TheVariants as Asks
use Rattle.fsd_runs.specs.Commands.{changes_of, reply_alone, reply_status}
use Rattle.fsd_runs.specs.Errands.{Answered, Cut, Errand, MayCut, Turn, blank, errand_alone, nothing_but}
use Rattle.fsd_runs.specs.Runs.{answered, changes_in, errand_in, said_in, turns_of, turns_with}
use Rattle.fsd_runs.specs.Sessions.{Meeting, session_over}
use Rattle.cfs_program.specs.Drill.{list_text}
use Rattle.cfs_program.specs.Program.{input_for}
use Rattle.cfs_program.proofs.LifeLaws.{IsPutReply, all_versions, answered_once, list_is, listing, put_reply, reply_to, turn_for}
use Rattle.fsd_runs.proofs.RunLaws.{answered_none}
use Rattle.fsd_history.proofs.DumpLaws.{dump_ends, dump_stops, restore_ends, restore_stops}
use Rattle.fsd_history.specs.History.{Ends, EndsPlainly, Fails, HasShown, Life, Meets, PlainlySo, Plays, SaysVersion, Stops, StopsPlainly, Tells, TellsPlainly, TellsSo, turns_in}

-- ---- one command

module _ (command : Command) (v : Volume) where
  turns_are : (Shown : Image → Type 0) (i : Image) (mets : List Meeting) → Meets Shown i (session_over v) mets (Plain command ∷ [])
      → (turns_of (errand_alone command) mets (session_over v) ≡ blank ∷ []) ⊎ ((met : Meeting) × (turns_of (errand_alone command) mets (session_over v) ≡ turn_for command v met ∷ []))
  turns_are Shown i [] meets = inl refl
  turns_are Shown i (met ∷ []) meets = inr (met, refl)
  turns_are Shown i (met ∷ other ∷ mets) (j, shown, may, more) = absurd more

-- ---- a list

module _ (input : List ℕ) (pattern : Pattern) where
  list_turns : (cut : Cut) → MayCut (Asks.One (Word.List pattern)) cut → (mets : List Meeting) (v : Volume) → length mets ≡ length (errand_in (Asks.One (Word.List pattern)) input cut v).commands
      → (said_in (turns_of (errand_in (Asks.One (Word.List pattern)) input cut v) mets (session_over v)) ≡ listing (filter (λ e. fits pattern e.key.name) v.entries))
      × (changes_in (turns_of (errand_in (Asks.One (Word.List pattern)) input cut v) mets (session_over v)) ≡ [])
  list_turns None may mets v through =
      let once = answered_once (Word.List pattern) v mets through in
      (ap said_in once.1.turns ∙ append-nil (listing (filter (λ e. fits pattern e.key.name) v.entries)), ap changes_in once.1.turns)
  list_turns (Some x) may mets v through = absurd may

pub pattern_says : (Shown : Image → Type 0) (pattern : Pattern) (input said : List ℕ) (s next : Files) (status : ℕ) → Ends Shown (Asks.One (Word.List pattern)) input s said status next → (pattern ≡ Prefix [] → said ≡ list_text s) × (next ≡ s)
pattern_says Shown pattern input said s next status x =
    let p = x.plays in
    let turns = list_turns input pattern p.cut p.may p.mets p.volume x.through in
    (λ all. x.says ∙ turns.0 ∙ ap (λ (q : Pattern). listing (filter (λ e. fits q e.key.name) p.volume.entries)) all ∙ list_is s p.volume.entries p.fresh.described.lists, x.files ∙ ap (fold step s) turns.1)

pub list_says : (Shown : Image → Type 0) (input said : List ℕ) (s next : Files) (status : ℕ) → Ends Shown (Asks.One all_versions) input s said status next → (said ≡ list_text s) × (next ≡ s)
list_says Shown input said s next status x = let says = pattern_says Shown (Prefix []) input said s next status x in (says.0 refl, says.1)

-- ---- a get

got_says : (key : Key) (damaged : Option ℕ) (o : Option File) → SaysVersion key o (reply_alone (got key damaged o)) (reply_status (got key damaged o))
got_says key damaged None = (refl, refl)
got_says key None (Some file) = inl (refl, refl)
got_says key (Some t) (Some file) = inr (refl, t, refl)

-- what it says, its status, and that nothing is changed
record IsGotten (key : Key) (v : Volume) (turns : List Turn) (status : ℕ) : Type 0 where
  damaged : Option ℕ
  says : said_in turns ≡ reply_alone (got key damaged (find key_cmp key v.files))
  status_is : status ≡ reply_status (got key damaged (find key_cmp key v.files))
  changes : changes_in turns ≡ []

get_turns : (key : Key) (input : List ℕ) (cut : Cut) → MayCut (Asks.One (Word.Get key)) cut → (mets : List Meeting) (v : Volume) → length mets ≡ length (errand_in (Asks.One (Word.Get key)) input cut v).commands
    → IsGotten key v (turns_of (errand_in (Asks.One (Word.Get key)) input cut v) mets (session_over v)) ((errand_in (Asks.One (Word.Get key)) input cut v).ends (answered mets (session_over v) (errand_in (Asks.One (Word.Get key)) input cut v).commands)).status
get_turns key input None may mets v through =
    let once = answered_once (Word.Get key) v mets through in
    record {
      damaged = once.0.met.damaged;
      says = ap said_in once.1.turns ∙ append-nil (reply_alone (reply_to (Word.Get key) v once.0));
      status_is = once.1.status;
      changes = ap changes_in once.1.turns;
    }
get_turns key input (Some x) may mets v through = absurd may

pub get_says : (Shown : Image → Type 0) (key : Key) (input said : List ℕ) (s next : Files) (status : ℕ) → Ends Shown (Asks.One (Word.Get key)) input s said status next → SaysVersion key (find key_cmp key s) said status × (next ≡ s)
get_says Shown key input said s next status x =
    let p = x.plays in
    let g = get_turns key input p.cut p.may p.mets p.volume x.through in
    let is : SaysVersion key (find key_cmp key p.volume.files) said status =
    subst (λ (t : List ℕ). SaysVersion key (find key_cmp key p.volume.files) t status) (sym (x.says ∙ g.says))
    (subst (λ (n : ℕ). SaysVersion key (find key_cmp key p.volume.files) (reply_alone (got key g.damaged (find key_cmp key p.volume.files))) n) (sym (x.ends ∙ g.status_is)) (got_says key g.damaged (find key_cmp key p.volume.files))) in
    (subst (λ (f : Files). SaysVersion key (find key_cmp key f) said status) p.fresh.files is, x.files ∙ ap (fold step s) g.changes)

-- ---- a put

module _ (name : List ℕ) (keep : Option ℕ) (input : List ℕ) where
  abbrev the_put : Command
  the_put = Word.Put name input keep

  abbrev the_change : Change
  the_change = Change.Put name keep input

  abbrev put_or : Bool → Errand
  put_or b = if b then nothing_but Ended.InputTooLong else errand_alone the_put

  changes_none : (reply : Reply) → IsPutReply reply → (changes_of the_put reply ≡ []) ⊎ (changes_of the_put reply ≡ the_change ∷ [])
  changes_none reply (inl (why, is)) = inl (ap (changes_of the_put) is)
  changes_none reply (inr (key, sectors, is)) = inr (ap (changes_of the_put) is)

  changes_one : (reply : Reply) → IsPutReply reply → reply_status reply ≡ 0 → changes_of the_put reply ≡ the_change ∷ []
  changes_one reply (inl (why, is)) nought = let one : reply_status reply ≡ 1 = ap reply_status is in absurd (omega (arith, nought, one))
  changes_one reply (inr (key, sectors, is)) nought = ap (changes_of the_put) is

  -- it was done
  put_did : (b : Bool) (mets : List Meeting) (v : Volume) → length mets ≡ length (put_or b).commands → 0 ≡ ((put_or b).ends (answered mets (session_over v) (put_or b).commands)).status
      → changes_in (turns_of (put_or b) mets (session_over v)) ≡ the_change ∷ []
  put_did true mets v through nought = absurd (omega (arith, nought))
  put_did false mets v through nought =
      let once = answered_once the_put v mets through in
      let met = once.0 in
      ap changes_in once.1.turns
      ∙ append-nil (changes_of the_put (reply_to the_put v met))
      ∙ changes_one (reply_to the_put v met) (put_reply met.met name input keep v) (sym once.1.status ∙ sym nought)

  changes_zero : (reply : Reply) → IsPutReply reply → reply_status reply ≡ 1 → changes_of the_put reply ≡ []
  changes_zero reply (inl (why, is)) one = ap (changes_of the_put) is
  changes_zero reply (inr (key, sectors, is)) one = let nought : reply_status reply ≡ 0 = ap reply_status is in absurd (omega (arith, nought, one))

  put_didnt : (b : Bool) (mets : List Meeting) (v : Volume) → length mets ≡ length (put_or b).commands → 1 ≡ ((put_or b).ends (answered mets (session_over v) (put_or b).commands)).status
      → changes_in (turns_of (put_or b) mets (session_over v)) ≡ []
  put_didnt true mets v through one = absurd (omega (arith, one))
  put_didnt false mets v through one =
      let once = answered_once the_put v mets through in
      let met = once.0 in
      ap changes_in once.1.turns
      ∙ append-nil (changes_of the_put (reply_to the_put v met))
      ∙ changes_zero (reply_to the_put v met) (put_reply met.met name input keep v) (sym once.1.status ∙ sym one)

  put_refuses : (cut : Cut) → MayCut (Asks.Put name keep) cut → (mets : List Meeting) (v : Volume) → length mets ≡ length (errand_in (Asks.Put name keep) input cut v).commands
      → 1 ≡ ((errand_in (Asks.Put name keep) input cut v).ends (answered mets (session_over v) (errand_in (Asks.Put name keep) input cut v).commands)).status
      → changes_in (turns_of (errand_in (Asks.Put name keep) input cut v) mets (session_over v)) ≡ []
  put_refuses None may mets v through one = put_didnt (nat_lt max_input (length input)) mets v through one
  put_refuses (Some x) may mets v through one = absurd may

  pub put_refused : (Shown : Image → Type 0) (said : List ℕ) (s next : Files) (status : ℕ) → Ends Shown (Asks.Put name keep) input s said status next → status ≡ 1 → next ≡ s
  put_refused Shown said s next status x one = let p = x.plays in x.files ∙ ap (fold step s) (put_refuses p.cut p.may p.mets p.volume x.through (sym one ∙ x.ends))

  -- its input was too long, or it was refused or made
  put_unless : (b : Bool) (mets : List Meeting) (v : Volume) → length mets ≡ length (put_or b).commands → 5 ≡ ((put_or b).ends (answered mets (session_over v) (put_or b).commands)).status
      → changes_in (turns_of (put_or b) mets (session_over v)) ≡ []
  put_unless true mets v through five = ap (λ (done : List Answered). changes_in (turns_with (put_or true) done)) (answered_none mets (session_over v))
  put_unless false mets v through five =
      let once = answered_once the_put v mets through in
      let met = once.0 in
      let status = once.1.status in
      absurd (either (reply_to the_put v met) (put_reply met.met name input keep v) (five ∙ status))
    where
      either : (reply : Reply) → IsPutReply reply → 5 ≡ reply_status reply → ⊥
      either reply (inl (why, is)) five = let one : reply_status reply ≡ 1 = ap reply_status is in omega (arith, five, one)
      either reply (inr (key, sectors, is)) five = let nought : reply_status reply ≡ 0 = ap reply_status is in omega (arith, five, nought)

  put_fails : (cut : Cut) → MayCut (Asks.Put name keep) cut → (mets : List Meeting) (v : Volume) → length mets ≡ length (errand_in (Asks.Put name keep) input cut v).commands
      → 5 ≡ ((errand_in (Asks.Put name keep) input cut v).ends (answered mets (session_over v) (errand_in (Asks.Put name keep) input cut v).commands)).status
      → changes_in (turns_of (errand_in (Asks.Put name keep) input cut v) mets (session_over v)) ≡ []
  put_fails None may mets v through five = put_unless (nat_lt max_input (length input)) mets v through five
  put_fails (Some x) may mets v through five = absurd may

  pub put_unread : (Shown : Image → Type 0) (said : List ℕ) (s next : Files) (status : ℕ) → Ends Shown (Asks.Put name keep) input s said status next → status ≡ 5 → next ≡ s
  put_unread Shown said s next status x five = let p = x.plays in x.files ∙ ap (fold step s) (put_fails p.cut p.may p.mets p.volume x.through (sym five ∙ x.ends))

  put_ends : (cut : Cut) → MayCut (Asks.Put name keep) cut → (mets : List Meeting) (v : Volume) → length mets ≡ length (errand_in (Asks.Put name keep) input cut v).commands
      → 0 ≡ ((errand_in (Asks.Put name keep) input cut v).ends (answered mets (session_over v) (errand_in (Asks.Put name keep) input cut v).commands)).status
      → changes_in (turns_of (errand_in (Asks.Put name keep) input cut v) mets (session_over v)) ≡ the_change ∷ []
  put_ends None may mets v through nought = put_did (nat_lt max_input (length input)) mets v through nought
  put_ends (Some x) may mets v through nought = absurd may

  pub put_found : (Shown : Image → Type 0) (said : List ℕ) (s next : Files) → Ends Shown (Asks.Put name keep) input s said 0 next → next ≡ step s the_change
  put_found Shown said s next x = let p = x.plays in x.files ∙ ap (fold step s) (put_ends p.cut p.may p.mets p.volume x.through x.ends)

  -- it was begun or not
  abbrev NoneOrOne : List Change → Type 0
  NoneOrOne cs = (cs ≡ []) ⊎ (cs ≡ the_change ∷ [])

  first_turn : (turns : List Turn) (t : Turn) (whole : ℕ) → turns ≡ t ∷ [] → changes_in (take (suc whole) turns) ≡ t.changes
  first_turn turns t whole is = ap (λ (x : List Turn). changes_in (take (suc whole) x)) is ∙ ap changes_in (take_all (suc whole) (t ∷ []) (omega arith)) ∙ append-nil t.changes

  put_may : (Shown : Image → Type 0) (i : Image) (b : Bool) (mets : List Meeting) (v : Volume) → Meets Shown i (session_over v) mets (put_or b).commands → (whole : ℕ) → NoneOrOne (changes_in (take (suc whole) (turns_of (put_or b) mets (session_over v))))
  put_may Shown i true [] v meets whole = inl (first_turn (turns_of (put_or true) [] (session_over v)) _ whole refl)
  put_may Shown i true (met ∷ mets) v meets whole = absurd meets
  put_may Shown i false mets v meets whole = by (turns_are the_put v Shown i mets meets)
    where
      turns : List Turn
      turns = turns_of (errand_alone the_put) mets (session_over v)

      by : (turns ≡ blank ∷ []) ⊎ ((met : Meeting) × (turns ≡ turn_for the_put v met ∷ [])) → NoneOrOne (changes_in (take (suc whole) turns))
      by (inl is) = inl (first_turn turns blank whole is)
      by (inr (met, is)) = either (changes_none (reply_to the_put v met) (put_reply met.met name input keep v))
        where
          either : NoneOrOne (changes_of the_put (reply_to the_put v met)) → NoneOrOne (changes_in (take (suc whole) turns))
          either (inl none) = inl (first_turn turns (turn_for the_put v met) whole is ∙ none)
          either (inr one) = inr (first_turn turns (turn_for the_put v met) whole is ∙ one)

  put_begun : (Shown : Image → Type 0) (i : Image) (cut : Cut) → MayCut (Asks.Put name keep) cut → (mets : List Meeting) (v : Volume) → Meets Shown i (session_over v) mets (errand_in (Asks.Put name keep) input cut v).commands
      → (whole : ℕ) → NoneOrOne (changes_in (take (suc whole) (turns_of (errand_in (Asks.Put name keep) input cut v) mets (session_over v))))
  put_begun Shown i None may mets v meets whole = put_may Shown i (nat_lt max_input (length input)) mets v meets whole
  put_begun Shown i (Some x) may mets v meets whole = absurd may

  taken : (found : ℕ) (cs : List Change) → NoneOrOne cs → NoneOrOne (take found cs)
  taken zero cs is = inl refl
  taken (suc found) cs (inl none) = inl (ap (take (suc found)) none)
  taken (suc found) cs (inr one) = inr (ap (take (suc found)) one ∙ take_all (suc found) (the_change ∷ []) (omega arith))

  pub put_stops : (Shown : Image → Type 0) (said : List ℕ) (s next : Files) → Stops Shown (Asks.Put name keep) input s said next → (next ≡ s) ⊎ (next ≡ step s the_change)
  put_stops Shown said s next (inl (fault, is)) = inl is
  put_stops Shown said s next (inr x) = by (taken x.found cs (put_begun Shown p.image p.cut p.may p.mets p.volume p.meets x.whole))
    where
      p : Plays Shown (Asks.Put name keep) input s
      p = x.plays

      cs : List Change
      cs = changes_in (take (suc x.whole) (turns_in x.plays))

      by : NoneOrOne (take x.found cs) → (next ≡ s) ⊎ (next ≡ step s the_change)
      by (inl none) = inl (x.files ∙ ap (fold step s) none)
      by (inr one) = inr (x.files ∙ ap (fold step s) one)

-- ---- a put that was stopped, and then a list

module _ {D : Type 0} (M : Ghosts D) (name : List ℕ) (keep : Option ℕ) where
  abbrev Says : Life D → Files → Type 0
  Says y s = (M.now y.to).said ≡ (M.now y.from).said ++ list_text s

  so_stopped : (x : Life D) (left : Moment) (s next : Files) → x.request ≡ Asks.Put name keep → x.stop ≡ Some left → TellsSo M x x.stop s next → (next ≡ s) ⊎ (next ≡ step s (Change.Put name keep (M.ledger x.from).input))
  so_stopped x left s next asks stop tells =
      let so = subst (λ (o : Option Moment). TellsSo M x o s next) stop tells in
      let stops = subst (λ (r : Request). Stops (HasShown M x.to) r (input_for r (M.ledger x.from).input) s so.0 next) asks so.2 in
      put_stops name keep (M.ledger x.from).input (HasShown M x.to) so.0 s next stops

  abbrev EndsOrFails : Life D → Files → (next : Files) → (said : List ℕ) → Request → Type 0
  EndsOrFails y s next said r = Ends (HasShown M y.to) r (input_for r (M.ledger y.from).input) s said y.status next ⊎ Fails r s said y.status next

  list_ends : (y : Life D) (s next : Files) (said : List ℕ) → EndsOrFails y s next said (Asks.One all_versions) → said ≡ list_text s
  list_ends y s next said (inl ends) = (list_says (HasShown M y.to) [] said s next y.status ends).0
  list_ends y s next said (inr fails) = absurd fails.unread.0

  so_listed : (y : Life D) (s next : Files) → y.request ≡ Asks.One all_versions → y.stop ≡ None → TellsSo M y y.stop s next → Says y s
  so_listed y s next asks stop tells =
      let so = subst (λ (o : Option Moment). TellsSo M y o s next) stop tells in
      so.1 ∙ ap (λ (x : List ℕ). (M.now y.from).said ++ x) (list_ends y s next so.0 (subst (EndsOrFails y s next so.0) asks so.2))

  pub put_listed : (x y : Life D) (left : Moment) → x.request ≡ Asks.Put name keep → x.stop ≡ Some left → y.request ≡ Asks.One all_versions → y.stop ≡ None → Tells M [] (x ∷ y ∷ [])
      → Says y [] ⊎ Says y (step [] (Change.Put name keep (M.ledger x.from).input))
  put_listed x y left asks stop lists ends (next, put, (last, list, rest)) = by (so_stopped x left [] next asks stop put)
    where
      says : Says y next
      says = so_listed y next last lists ends list

      by : (next ≡ []) ⊎ (next ≡ step [] (Change.Put name keep (M.ledger x.from).input)) → Says y [] ⊎ Says y (step [] (Change.Put name keep (M.ledger x.from).input))
      by (inl none) = inl (subst (λ (s : Files). Says y s) none says)
      by (inr one) = inr (subst (λ (s : Files). Says y s) one says)

-- ---- histories of puts, gets, lists, upgrades, growths, dumps and restores

module _ (command : Command) (still : (reply : Reply) → changes_of command reply ≡ []) (input : List ℕ) where
  still_begun : (Shown : Image → Type 0) (i : Image) (cut : Cut) → MayCut (Asks.One command) cut → (mets : List Meeting) (v : Volume) → Meets Shown i (session_over v) mets (errand_in (Asks.One command) input cut v).commands
      → (whole : ℕ) → changes_in (take (suc whole) (turns_of (errand_in (Asks.One command) input cut v) mets (session_over v))) ≡ []
  still_begun Shown i None may mets v meets whole = by (turns_are command v Shown i mets meets)
    where
      turns : List Turn
      turns = turns_of (errand_alone command) mets (session_over v)

      one_taken : (t : Turn) → turns ≡ t ∷ [] → t.changes ≡ [] → changes_in (take (suc whole) turns) ≡ []
      one_taken t is none = ap (λ (x : List Turn). changes_in (take (suc whole) x)) is ∙ ap changes_in (take_all (suc whole) (t ∷ []) (omega arith)) ∙ append-nil t.changes ∙ none

      by : (turns ≡ blank ∷ []) ⊎ ((met : Meeting) × (turns ≡ turn_for command v met ∷ [])) → changes_in (take (suc whole) turns) ≡ []
      by (inl is) = one_taken blank is refl
      by (inr (met, is)) = one_taken (turn_for command v met) is (still (reply_to command v met))
  still_begun Shown i (Some x) may mets v meets whole = absurd may

  still_stops : (Shown : Image → Type 0) (said : List ℕ) (s next : Files) → Stops Shown (Asks.One command) input s said next → next ≡ s
  still_stops Shown said s next (inl (fault, is)) = is
  still_stops Shown said s next (inr x) =
      x.files ∙ ap (λ (cs : List Change). fold step s (take x.found cs)) (still_begun Shown x.plays.image x.plays.cut x.plays.may x.plays.mets x.plays.volume x.plays.meets x.whole) ∙ ap (fold step s) (take-nil x.found)

  still_turns : (cut : Cut) → MayCut (Asks.One command) cut → (mets : List Meeting) (v : Volume) → length mets ≡ length (errand_in (Asks.One command) input cut v).commands
      → changes_in (turns_of (errand_in (Asks.One command) input cut v) mets (session_over v)) ≡ []
  still_turns None may mets v through =
      let once = answered_once command v mets through in
      ap changes_in once.1.turns ∙ append-nil (changes_of command (reply_to command v once.0)) ∙ still (reply_to command v once.0)
  still_turns (Some x) may mets v through = absurd may

  still_ends : (Shown : Image → Type 0) (said : List ℕ) (s next : Files) (status : ℕ) → Ends Shown (Asks.One command) input s said status next → next ≡ s
  still_ends Shown said s next status x = let p = x.plays in x.files ∙ ap (fold step s) (still_turns p.cut p.may p.mets p.volume x.through)

ends_plainly : (Shown : Image → Type 0) (request : Request) (input said : List ℕ) (s next : Files) (status : ℕ) → Ends Shown request (input_for request input) s said status next → EndsPlainly request input s said status next
ends_plainly Shown (Asks.Put name keep) input said s next status x =
    (λ nought. put_found name keep input Shown said s next (subst (λ (n : ℕ). Ends Shown (Asks.Put name keep) input s said n next) nought x), put_refused name keep input Shown said s next status x, put_unread name keep input Shown said s next status x)
ends_plainly Shown (Asks.One (Word.Get key)) input said s next status x = get_says Shown key [] said s next status x
ends_plainly Shown (Asks.One (Word.List pattern)) input said s next status x = pattern_says Shown pattern [] said s next status x
ends_plainly Shown (Asks.One Word.Upgrade) input said s next status x = still_ends Word.Upgrade (λ reply. refl) [] Shown said s next status x
ends_plainly Shown (Asks.One (Word.Grow sectors)) input said s next status x = still_ends (Word.Grow sectors) (λ reply. refl) [] Shown said s next status x
ends_plainly Shown (Asks.Dump since most) input said s next status x = dump_ends Shown since most said s next status x
ends_plainly Shown Asks.Restore input said s next status x = restore_ends Shown input said s next status x
ends_plainly Shown request input said s next status x = tt

fails_plainly : (request : Request) (input said : List ℕ) (s next : Files) (status : ℕ) → Fails request s said status next → EndsPlainly request input s said status next
fails_plainly (Asks.Put name keep) input said s next status x = let five = x.unread.1 in (λ nought. absurd (omega (arith, nought, five)), λ one. x.files, λ is. x.files)
fails_plainly Asks.Restore input said s next status x = let five = x.unread.1 in (λ nought. absurd (omega (arith, nought, five)), λ is. x.files, (0, x.files))
fails_plainly request input said s next status x = absurd x.unread.0

stops_plainly : (Shown : Image → Type 0) (request : Request) (input said : List ℕ) (s next : Files) → Stops Shown request (input_for request input) s said next → StopsPlainly request input s next
stops_plainly Shown (Asks.Put name keep) input said s next x = put_stops name keep input Shown said s next x
stops_plainly Shown (Asks.One (Word.Get key)) input said s next x = still_stops (Word.Get key) (λ reply. refl) [] Shown said s next x
stops_plainly Shown (Asks.One (Word.List pattern)) input said s next x = still_stops (Word.List pattern) (λ reply. refl) [] Shown said s next x
stops_plainly Shown (Asks.One Word.Upgrade) input said s next x = still_stops Word.Upgrade (λ reply. refl) [] Shown said s next x
stops_plainly Shown (Asks.One (Word.Grow sectors)) input said s next x = still_stops (Word.Grow sectors) (λ reply. refl) [] Shown said s next x
stops_plainly Shown (Asks.Dump since most) input said s next x = dump_stops Shown since most said s next x
stops_plainly Shown Asks.Restore input said s next x = restore_stops Shown input said s next x
stops_plainly Shown request input said s next x = tt

module _ {D : Type 0} (M : Ghosts D) where
  so_plainly : (x : Life D) (stop : Option Moment) (s next : Files) → TellsSo M x stop s next → PlainlySo M x stop s next
  so_plainly x None s next (said, is, inr fails) = (said, is, fails_plainly x.request (M.ledger x.from).input said s next x.status fails)
  so_plainly x None s next (said, is, inl ends) = (said, is, ends_plainly (HasShown M x.to) x.request (M.ledger x.from).input said s next x.status ends)
  so_plainly x (Some left) s next (said, is, stops) = stops_plainly (HasShown M x.to) x.request (M.ledger x.from).input said s next stops

  pub all_plainly : (xs : List (Life D)) (s : Files) → Tells M s xs → TellsPlainly M s xs
  all_plainly [] s tells = tt
  all_plainly (x ∷ xs) s (next, so, more) = (next, so_plainly x x.stop s next so, all_plainly xs next more)
