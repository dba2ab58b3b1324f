-- A drill: what is said, piece by piece, and what is told of it.
use Rattle.std.proofs.Common.{◌≡◌, ◌⊎◌, inl, inr, ℕ, suc, ◌<◌, Bool, true, false, List, [], ◌∷◌, ◌++◌, take, drop, refl, sym, ◌∙◌, ap, subst, arith}
use Rattle.std.specs.Prelude.{IsTrue}
use Rattle.std.proofs.lemmas.Bool.{eq-eqb}
use Rattle.std.proofs.lemmas.List.{append_assoc, append-nil, take-append-drop}
use Rattle.sector_disk.specs.declared.machine.Machine.{Ghosts}
use Rattle.sector_disk.specs.Calls.{Counts, LeavesDisk, SparesDisk}
use Rattle.sector_disk.specs.Machine.{Ledger, Moment, Report, Rose, Says, Trusts, Utters}
use Rattle.fsd_texts.specs.declared.fault.Fault.TheVariants as Ends
use Rattle.fsd_texts.specs.declared.line.Line.TheVariants as Lines
use Rattle.fsd_texts.specs.Text.{memory_text, text}
use Rattle.fsd_runs.specs.declared.request.Request.TheVariants.{Drill}
use Rattle.volume_turns.specs.Line.{EndsWith, IsStatusAs, is_unsaid}
use Rattle.volume_turns.proofs.QuietLaws.{quiet_unfailed}
use Rattle.volume_turns.proofs.ReasonLaws.{ages_then}
use Rattle.cfs_program.specs.Drill.{BeginsSaying, Drills, IsListOf, SaysDrill, SaysLives, SpeaksBytes, all_lives}
use Rattle.cfs_program.specs.Program.{Ran}
use Rattle.fsd_runs.specs.Commands.{is_status_of}
use Rattle.cfs_program.proofs.AmongLaws.{one_at}
use Rattle.cfs_program.proofs.CountsLaws.{input_alone, spares_none}
use Rattle.cfs_program.proofs.FormatLaws.{untouched_by}

-- ---- one after the other

begins_by : (bytes : List ℕ) (old new : Moment) → Utters bytes old new → BeginsSaying bytes old new
begins_by bytes old new u = record { part = take u.heard bytes; rest = drop u.heard bytes; whole = sym (take-append-drop u.heard bytes); said = u.said }

begins_all : (bytes : List ℕ) (old new : Moment) → new.said ≡ old.said ++ bytes → BeginsSaying bytes old new
begins_all bytes old new said = record { part = bytes; rest = []; whole = sym (append-nil bytes); said = said }

begins_more : (x y : List ℕ) (old new : Moment) → BeginsSaying x old new → BeginsSaying (x ++ y) old new
begins_more x y old new b = record { part = b.part; rest = b.rest ++ y; whole = ap (λ (l : List ℕ). l ++ y) b.whole ∙ append_assoc b.part b.rest y; said = b.said }

begins_behind : (x y : List ℕ) (old mid new : Moment) → mid.said ≡ old.said ++ x → BeginsSaying y mid new → BeginsSaying (x ++ y) old new
begins_behind x y old mid new said b = record {
  part = x ++ b.part;
  rest = b.rest;
  whole = ap (λ (l : List ℕ). x ++ l) b.whole ∙ sym (append_assoc x b.part b.rest);
  said = b.said ∙ ap (λ (l : List ℕ). l ++ b.part) said ∙ append_assoc old.said x b.part;
}

spares_then : (failed : Bool) (a b c : Report) → SparesDisk false false a b → SparesDisk false failed b c → SparesDisk false failed a c
spares_then failed a b c first second = record {
  sectors = second.sectors ∙ first.sectors;
  place = second.place ∙ first.place;
  disk = second.disk ∙ first.disk;
  input = second.input ∙ first.input;
  output = output failed second.output;
}
  where
    output : (x : Bool) → Counts x b.output_faults c.output_faults → Counts x a.output_faults c.output_faults
    output true rose = subst (λ (n : ℕ). Rose n c.output_faults) first.output rose
    output false same = same ∙ first.output

module _ {D : Type 0} (M : Ghosts D) where
  -- one call
  pub speaks_all : (bytes : List ℕ) (a b : D) → SparesDisk false false (M.report a) (M.report b) → Trusts (M.tells a) (M.tells b) (M.honest a) (M.honest b) → (M.tells b → M.ledger b ≡ M.ledger a)
      → (M.honest b → Says bytes (M.now a) (M.now b)) → SpeaksBytes M bytes false a b
  speaks_all bytes a b spares trust ledger says = record {
    spares = spares;
    trust = trust;
    ledger = ledger;
    ages = λ h. let s = says h in record { image = s.image; windows = s.windows };
    begins = λ h. begins_all bytes (M.now a) (M.now b) (says h).said;
    says = λ all h. (says h).said;
  }

  pub speaks_part : (bytes : List ℕ) (a b : D) → SparesDisk false true (M.report a) (M.report b) → Trusts (M.tells a) (M.tells b) (M.honest a) (M.honest b) → (M.tells b → M.ledger b ≡ M.ledger a)
      → (M.honest b → Utters bytes (M.now a) (M.now b)) → SpeaksBytes M bytes true a b
  speaks_part bytes a b spares trust ledger cut = record {
    spares = spares;
    trust = trust;
    ledger = ledger;
    ages = λ h. let u = cut h in record { image = u.image; windows = u.windows };
    begins = λ h. begins_by bytes (M.now a) (M.now b) (cut h);
    says = λ all h. absurd (cc all);
  }

  -- the first has failed
  pub speaks_cut : (x y : List ℕ) (a b : D) → SpeaksBytes M x true a b → SpeaksBytes M (x ++ y) true a b
  speaks_cut x y a b s = record {
    spares = s.spares;
    trust = s.trust;
    ledger = s.ledger;
    ages = s.ages;
    begins = λ h. begins_more x y (M.now a) (M.now b) (s.begins h);
    says = λ all h. absurd (cc all);
  }

  pub speaks_then : (x y : List ℕ) (failed : Bool) (a b c : D) → SpeaksBytes M x false a b → SpeaksBytes M y failed b c → SpeaksBytes M (x ++ y) failed a c
  speaks_then x y failed a b c first second = record {
    spares = spares_then failed (M.report a) (M.report b) (M.report c) first.spares second.spares;
    trust = record { tells = λ t. first.trust.tells (second.trust.tells t); honest = λ h. first.trust.honest (second.trust.honest h) };
    ledger = λ t. second.ledger t ∙ first.ledger (second.trust.tells t);
    ages = λ h. ages_then (M.now a) (M.now b) (M.now c) (first.ages (second.trust.honest h)) (second.ages h);
    begins = λ h. begins_behind x y (M.now a) (M.now b) (M.now c) (first.says refl (second.trust.honest h)) (second.begins h);
    says = λ all h. second.says all h ∙ ap (λ (l : List ℕ). l ++ y) (first.says refl (second.trust.honest h)) ∙ append_assoc (M.now a).said x y;
  }

  -- ---- how a drill ends

  -- one more life
  pub says_next : (lives : ℕ) (list : List ℕ) (a b c : D) → SaysLives M lives a b → IsListOf (suc lives) list → SpeaksBytes M (text (Lines.Life (suc lives)) ++ list) false b c → SaysLives M (suc lives) a c
  says_next lives list a b c first is second =
      let line = text (Lines.Life (suc lives)) ++ list in
      record { said = first.said ++ line; are = (first.said, first.are, list, is, refl); speaks = speaks_then first.said line false a b c first.speaks second }

  pub drills_all : (a b : D) → SaysLives M all_lives a b → Drills M a b 0
  drills_all a b s = record {
    status = inl refl;
    spares = s.speaks.spares;
    trust = s.speaks.trust;
    ledger = s.speaks.ledger;
    ages = s.speaks.ages;
    says = λ h. inl (refl, s.said, s.are, s.speaks.says refl h);
  }

  pub drills_unsaid : (lives : ℕ) (list : List ℕ) (a b c : D) → lives < all_lives → SaysLives M lives a b → IsListOf (suc lives) list → SpeaksBytes M (text (Lines.Life (suc lives)) ++ list) true b c → Drills M a c 6
  drills_unsaid lives list a b c inside first is second =
      let line = text (Lines.Life (suc lives)) ++ list in
      let s = speaks_then first.said line true a b c first.speaks second in
      record {
        status = inr (inr refl);
        spares = s.spares;
        trust = s.trust;
        ledger = s.ledger;
        ages = s.ages;
        says = λ h. inr (inr (refl, first.said ++ line, (suc lives, omega (arith, inside), first.said ++ line, (first.said, first.are, list, is, refl), inl refl), s.begins h));
      }

  -- memory was refused for the next life
  pub drills_starved : (lives : ℕ) (a b c : D) (result : ℕ) → lives < all_lives → SaysLives M lives a b → LeavesDisk M false (is_unsaid result) (Utters memory_text) b c
      → (M.tells c → M.ledger c ≡ M.ledger b) → IsStatusAs 7 result → (M.honest c → EndsWith Ends.Memory (M.now b) (M.now c) result) → Drills M a c result
  drills_starved lives a b c result inside lines line ledger status ends = record {
    status = by status;
    spares = spares_then (is_unsaid result) (M.report a) (M.report b) (M.report c) first.spares line.spares;
    trust = record { tells = λ t. first.trust.tells (line.trust.tells t); honest = λ h. first.trust.honest (line.trust.honest h) };
    ledger = λ t. ledger t ∙ first.ledger (line.trust.tells t);
    ages = λ h. ages_then (M.now a) (M.now b) (M.now c) (first.ages (line.trust.honest h)) (untouched_by (Lines.Ended Ends.Memory) (M.now b) (M.now c) (line.exit h));
    says = λ h. said h (ends h);
  }
    where
      first : SpeaksBytes M lines.said false a b
      first = lines.speaks

      by : IsStatusAs 7 result → (result ≡ 0) ⊎ ((result ≡ 7) ⊎ (result ≡ 6))
      by (inl seven) = inr (inl seven)
      by (inr six) = inr (inr six)

      said : M.honest c → EndsWith Ends.Memory (M.now b) (M.now c) result → SaysDrill (M.now a) (M.now c) result
      said h (inl six) = inr (inr (
        six,
        lines.said ++ memory_text,
        (lives, omega (arith, inside), lines.said, lines.are, inr (inside, refl)),
        begins_behind lines.said memory_text (M.now a) (M.now b) (M.now c) (first.says refl (line.trust.honest h)) (begins_by memory_text (M.now b) (M.now c) (line.exit h)),
      ))
      said h (inr (seven, all)) = inr (inl (
        seven,
        lives,
        inside,
        lines.said,
        lines.are,
        all.said ∙ ap (λ (l : List ℕ). l ++ memory_text) (first.says refl (line.trust.honest h)) ∙ append_assoc (M.now a).said lines.said memory_text,
      ))

  -- ---- what is told of it

  module _ (path : List ℕ) (a b : D) (result : ℕ) (d : Drills M a b result) where
    abbrev Status : Type 0
    Status = (result ≡ 0) ⊎ ((result ≡ 7) ⊎ (result ≡ 6))

    status_is : Status → IsTrue (is_status_of (0 ∷ 7 ∷ 6 ∷ []) result)
    status_is (inl zero) = one_at (0 ∷ 7 ∷ 6 ∷ []) 0 result zero refl
    status_is (inr (inl seven)) = one_at (0 ∷ 7 ∷ 6 ∷ []) 7 result seven refl
    status_is (inr (inr six)) = one_at (0 ∷ 7 ∷ 6 ∷ []) 6 result six refl

    complete_is : (result ≡ 6 → ⊥) → Status → IsTrue (is_status_of (0 ∷ 7 ∷ []) result)
    complete_is said (inl zero) = one_at (0 ∷ 7 ∷ []) 0 result zero refl
    complete_is said (inr (inl seven)) = one_at (0 ∷ 7 ∷ []) 7 result seven refl
    complete_is said (inr (inr six)) = absurd (said six)

    never : (n : ℕ) → (n ≡ 0 → ⊥) → (n ≡ 7 → ⊥) → (n ≡ 6 → ⊥) → Status → result ≡ n → ⊥
    never n x y z (inl zero) at = x (sym at ∙ zero)
    never n x y z (inr (inl seven)) at = y (sym at ∙ seven)
    never n x y z (inr (inr six)) at = z (sym at ∙ six)

    output_rose : result ≡ 6 → Rose (M.report a).output_faults (M.report b).output_faults
    output_rose six = subst (λ (x : Bool). Counts x (M.report a).output_faults (M.report b).output_faults) (eq-eqb result 6 six) d.spares.output

    unasked : M.tells b → (M.ledger b).attaches ≡ (M.ledger a).attaches
    unasked t = ap (λ (x : Ledger). x.attaches) (d.ledger t)

    pub ran_drill : Ran M Drill path a b result
    ran_drill = record {
      status = status_is d.status;
      complete = λ none. complete_is (λ six. none.output (output_rose six)) d.status;
      device = λ four. absurd (never 4 (λ e. omega (arith, e)) (λ e. omega (arith, e)) (λ e. omega (arith, e)) d.status four);
      output = output_rose;
      quiet = λ quiet. spares_none (M.report a) (M.report b) result d.spares (quiet_unfailed result quiet);
      unfailed = λ unfailed. input_alone (M.report a) (M.report b) (spares_none (M.report a) (M.report b) result d.spares unfailed);
      attaches = λ t. inr (unasked t);
      attached = λ inside t. unasked t ∙ sym (append-nil (M.ledger a).attaches);
      syncs = λ t. ap (λ (x : Ledger). x.syncs) (d.ledger t);
      taken = λ t. ap (λ (x : Ledger). x.input) (d.ledger t);
      spared = d.spares.input;
      input = λ five t. absurd (never 5 (λ e. omega (arith, e)) (λ e. omega (arith, e)) (λ e. omega (arith, e)) d.status five);
      fails = λ five h. absurd (never 5 (λ e. omega (arith, e)) (λ e. omega (arith, e)) (λ e. omega (arith, e)) d.status five);
      bad = λ two h. tt;
      whole = λ zero t. tt;
      spelled = λ zero t. tt;
      one = λ h. tt;
      rest = λ h. tt;
      trust = d.trust;
      says = λ h. inl (d.says h);
      mounted = λ any h. tt;
      refused = λ three h. absurd (never 3 (λ e. omega (arith, e)) (λ e. omega (arith, e)) (λ e. omega (arith, e)) d.status three);
      accepted = λ h l windows changes f sound three. never 3 (λ e. omega (arith, e)) (λ e. omega (arith, e)) (λ e. omega (arith, e)) d.status three;
      spent = λ nine h. absurd (never 9 (λ e. omega (arith, e)) (λ e. omega (arith, e)) (λ e. omega (arith, e)) d.status nine);
      last = λ of h. tt;
      healed = λ of h. tt;
      all = λ none h. tt;
      image = λ none h. tt;
      untouched = d.ages;
      leaves = λ h was sound held. tt;
    }
