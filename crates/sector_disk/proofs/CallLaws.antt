-- Calls one after another, and what they leave said of less.
use Rattle.std.proofs.Common.{◌≡◌, ◌≤◌, ◌∙◌, refl, sym, ap, subst, arith, ℕ, Bool, true, false, Option, Some, None}
use Rattle.std.specs.Prelude.{Result, Ok, Err, IsErrAnd}
use Rattle.sector_disk.specs.declared.machine.Failed.{Failed}
use Rattle.sector_disk.specs.declared.machine.Machine.{Ghosts}
use Rattle.sector_disk.specs.Machine.{Before, DiskCause, Elapses, Ledger, LeavesOnly, Moment, OnlyWrites, Report, Trusts, UsesDisk, Wears}
use Rattle.sector_disk.specs.Calls.{Counts, DiskFaults, GrowsDisk, HealsDisk, LeavesDisk, OnlyReads, Since, SparesDisk, WritesDisk, device_in, failed_at}
use Rattle.sector_disk.proofs.Holding.{trusts_on, wears_none, wears_on}
use Rattle.sector_disk.proofs.Moments.{started, then_on, leaves_more}

-- ---- counts

pub uses_then : (a b c : Report) → UsesDisk a b → UsesDisk b c → UsesDisk a c
uses_then a b c first second = record {
  sectors = second.sectors ∙ first.sectors;
  disk = omega (arith, first.disk, second.disk);
  input = second.input ∙ first.input;
  output = second.output ∙ first.output;
}

-- the first of two has not failed
pub faults_then : (fault : Option ℕ) (a b c : Report) → DiskFaults None a b → DiskFaults fault b c → DiskFaults fault a c
faults_then None a b c first second = (second.0 ∙ first.0, second.1 ∙ first.1)
faults_then (Some place) a b c first second = record { rose = omega (arith, second.rose, first.0); told = second.told }

counts_then : (fails : Bool) (a b c : ℕ) → Counts false a b → Counts fails b c → Counts fails a c
counts_then true a b c first second = omega (arith, first, second)
counts_then false a b c first second = second ∙ first

pub spares_then : (takes says : Bool) (a b c : Report) → SparesDisk false false a b → SparesDisk takes says b c → SparesDisk takes says a c
spares_then takes says a b c first second = record {
  sectors = second.sectors ∙ first.sectors;
  place = second.place ∙ first.place;
  disk = second.disk ∙ first.disk;
  input = counts_then takes a.input_faults b.input_faults c.input_faults first.input second.input;
  output = counts_then says a.output_faults b.output_faults c.output_faults first.output second.output;
}

pub only_writes_then : (a b c : Ledger) → OnlyWrites a b → OnlyWrites b c → OnlyWrites a c
only_writes_then a b c first second = record { input = second.input ∙ first.input; attaches = second.attaches ∙ first.attaches; syncs = second.syncs ∙ first.syncs }

-- nothing was written either
pub same_ledger : {a b : Ledger} → b ≡ a → OnlyWrites a b
same_ledger same = record { input = ap (λ (l : Ledger). l.input) same; attaches = ap (λ (l : Ledger). l.attaches) same; syncs = ap (λ (l : Ledger). l.syncs) same }

-- ---- faults handed on

-- a fault that `?` hands on tells the place that it told
pub told_up : {T E : Type 0} (at : E → Option ℕ) (is : Result T E) (fault : E) → IsErrAnd is (λ told. told ≡ fault) → device_in at is ≡ at fault
told_up at (Ok x) fault same = absurd same
told_up at (Err told) fault same = ap at same

-- ---- two calls in a row

module _ {D : Type 0} (M : Ghosts D) (a b c : D) where
  since_then : M.moment a ≤ M.moment b → Since M a b → Since M b c → Since M a c
  since_then later first second t left le was = second t left (omega (arith, le, later)) (first t left le was)

  -- a stop in both, said of the moment before the first
  moments_then : (P Q R : Moment → Moment → Type 0) → ((left : Moment) → P (M.now a) left → R (M.now a) left) → ((left : Moment) → Q (M.now b) left → R (M.now a) left)
      → LeavesOnly M.moment M.left_since a b (P (M.now a)) → LeavesOnly M.moment M.left_since b c (Q (M.now b)) → LeavesOnly M.moment M.left_since a c (R (M.now a))
  moments_then P Q R first_so then_so first second = then_on M.moment M.left_since a b c (R (M.now a))
      (leaves_more M.moment M.left_since a b (P (M.now a)) (R (M.now a)) first_so first)
      (leaves_more M.moment M.left_since b c (Q (M.now b)) (R (M.now a)) then_so second)

module _ {D : Type 0} {M : Ghosts D} {a b c : D} where
  -- two calls that only read
  pub reads_then : {fault : Option ℕ} → OnlyReads M None a b → OnlyReads M fault b c → OnlyReads M fault a c
  reads_then {fault = fault} first second =
      let back = second.trust.honest in record {
        uses = uses_then (M.report a) (M.report b) (M.report c) first.uses second.uses;
        faults = faults_then fault (M.report a) (M.report b) (M.report c) first.faults second.faults;
        trust = trusts_on first.trust second.trust;
        ledger = λ t. second.ledger t ∙ first.ledger (second.trust.tells t);
        worn = λ h. wears_on (M.now a) (M.now b) (M.now c) (first.worn (back h)) (second.worn h);
        since = λ h. since_then M a b c (first.any_moment (back h)).later (first.since (back h)) (second.since h);
        any_moment = λ h. moments_then M a b c Wears Wears Wears (λ left worn. worn) (λ left worn. wears_on (M.now a) (M.now b) left (first.worn (back h)) worn) (first.any_moment (back h)) (second.any_moment h);
      }

  -- two calls that write
  pub writes_then : {fault : Option ℕ} {P Q R : Moment → Moment → Type 0} → WritesDisk M None P a b → WritesDisk M fault Q b c
      → (M.honest b → (left : Moment) → P (M.now a) left → R (M.now a) left) → (M.honest c → (left : Moment) → Q (M.now b) left → R (M.now a) left) → WritesDisk M fault R a c
  writes_then {fault = fault} {P = P} {Q = Q} {R = R} first second first_so then_so =
      let back = second.trust.honest in record {
        uses = uses_then (M.report a) (M.report b) (M.report c) first.uses second.uses;
        faults = faults_then fault (M.report a) (M.report b) (M.report c) first.faults second.faults;
        trust = trusts_on first.trust second.trust;
        ledger = λ t. only_writes_then (M.ledger a) (M.ledger b) (M.ledger c) (first.ledger (second.trust.tells t)) (second.ledger t);
        quiet = λ h. second.quiet h ∙ first.quiet (back h);
        windows = λ h. second.windows h ∙ first.windows (back h);
        exit = λ h. then_so h (M.now c) (second.exit h);
        since = λ h. since_then M a b c (first.any_moment (back h)).later (first.since (back h)) (second.since h);
        any_moment = λ h. moments_then M a b c P Q R (first_so (back h)) (then_so h) (first.any_moment (back h)) (second.any_moment h);
      }

  -- two calls that may give the image more sectors
  pub grows_then : {fault : Option ℕ} {P Q R : Moment → Moment → Type 0} → GrowsDisk M None P a b → GrowsDisk M fault Q b c
      → (M.honest b → (left : Moment) → P (M.now a) left → R (M.now a) left) → (M.honest c → (left : Moment) → Q (M.now b) left → R (M.now a) left) → GrowsDisk M fault R a c
  grows_then {fault = fault} {P = P} {Q = Q} {R = R} first second first_so then_so =
      let back = second.trust.honest in record {
        sectors = omega (arith, first.sectors, second.sectors);
        uses = record {
          sectors = refl;
          disk = omega (arith, first.uses.disk, second.uses.disk);
          input = second.uses.input ∙ first.uses.input;
          output = second.uses.output ∙ first.uses.output;
        };
        faults = faults_then fault (M.report a) (M.report b) (M.report c) first.faults second.faults;
        trust = trusts_on first.trust second.trust;
        ledger = λ t. only_writes_then (M.ledger a) (M.ledger b) (M.ledger c) (first.ledger (second.trust.tells t)) (second.ledger t);
        quiet = λ h. second.quiet h ∙ first.quiet (back h);
        windows = λ h. second.windows h ∙ first.windows (back h);
        exit = λ h. then_so h (M.now c) (second.exit h);
        since = λ h. since_then M a b c (first.any_moment (back h)).later (first.since (back h)) (second.since h);
        any_moment = λ h. moments_then M a b c P Q R (first_so (back h)) (then_so h) (first.any_moment (back h)) (second.any_moment h);
      }

  -- two calls that turn the windows
  pub heals_then : {fault : Option ℕ} → HealsDisk M None a b → HealsDisk M fault b c → HealsDisk M fault a c
  heals_then {fault = fault} first second =
      let back = second.trust.honest in record {
        uses = uses_then (M.report a) (M.report b) (M.report c) first.uses second.uses;
        faults = faults_then fault (M.report a) (M.report b) (M.report c) first.faults second.faults;
        trust = trusts_on first.trust second.trust;
        ledger = λ t. only_writes_then (M.ledger a) (M.ledger b) (M.ledger c) (first.ledger (second.trust.tells t)) (second.ledger t);
        quiet = λ h. second.quiet h ∙ first.quiet (back h);
        later = λ h. let one = first.later (back h) in let two = second.later h in omega (arith, one, two);
        since = λ h. since_then M a b c (first.later (back h)) (first.since (back h)) (second.since h);
      }

  -- two calls that take or say
  pub leaves_then : {takes says : Bool} {P Q R : Moment → Moment → Type 0} → LeavesDisk M false false P a b → LeavesDisk M takes says Q b c
      → (M.honest b → (left : Moment) → P (M.now a) left → R (M.now a) left) → (M.honest c → (left : Moment) → Q (M.now b) left → R (M.now a) left) → LeavesDisk M takes says R a c
  leaves_then {takes = takes} {says = says} {P = P} {Q = Q} {R = R} first second first_so then_so =
      let back = second.trust.honest in record {
        spares = spares_then takes says (M.report a) (M.report b) (M.report c) first.spares second.spares;
        trust = trusts_on first.trust second.trust;
        exit = λ h. then_so h (M.now c) (second.exit h);
        since = λ h. since_then M a b c (first.any_moment (back h)).later (first.since (back h)) (second.since h);
        any_moment = λ h. moments_then M a b c P Q R (first_so (back h)) (then_so h) (first.any_moment (back h)) (second.any_moment h);
      }

  -- two calls that take
  pub takes_then : {takes : Bool} → LeavesDisk M false false Wears a b → LeavesDisk M takes false Wears b c → LeavesDisk M takes false Wears a c
  takes_then first second = leaves_then first second (λ h left worn. worn) (λ h left worn. wears_on (M.now a) (M.now b) left (first.exit (second.trust.honest h)) worn)

-- ---- one call, said otherwise

module _ {D : Type 0} {M : Ghosts D} {a b : D} where
  -- a stop leaves more
  pub writes_more : {fault : Option ℕ} {P R : Moment → Moment → Type 0} → WritesDisk M fault P a b → (M.honest b → (left : Moment) → P (M.now a) left → R (M.now a) left) → WritesDisk M fault R a b
  writes_more {fault = fault} {P = P} {R = R} w more = record {
    uses = w.uses;
    faults = w.faults;
    trust = w.trust;
    ledger = w.ledger;
    quiet = w.quiet;
    windows = w.windows;
    exit = λ h. more h (M.now b) (w.exit h);
    since = w.since;
    any_moment = λ h. leaves_more M.moment M.left_since a b (P (M.now a)) (R (M.now a)) (more h) (w.any_moment h);
  }

  -- so it is where the image may have got more sectors
  pub grows_more : {fault : Option ℕ} {P R : Moment → Moment → Type 0} → GrowsDisk M fault P a b → (M.honest b → (left : Moment) → P (M.now a) left → R (M.now a) left) → GrowsDisk M fault R a b
  grows_more {fault = fault} {P = P} {R = R} w more = record {
    sectors = w.sectors;
    uses = w.uses;
    faults = w.faults;
    trust = w.trust;
    ledger = w.ledger;
    quiet = w.quiet;
    windows = w.windows;
    exit = λ h. more h (M.now b) (w.exit h);
    since = w.since;
    any_moment = λ h. leaves_more M.moment M.left_since a b (P (M.now a)) (R (M.now a)) (more h) (w.any_moment h);
  }

  -- a call that only reads, as one that might have written
  pub reads_as_writes : {fault : Option ℕ} {R : Moment → Moment → Type 0} → OnlyReads M fault a b → (M.honest b → (left : Moment) → Wears (M.now a) left → R (M.now a) left) → WritesDisk M fault R a b
  reads_as_writes {fault = fault} {R = R} r wears = record {
    uses = r.uses;
    faults = r.faults;
    trust = r.trust;
    ledger = λ t. same_ledger (r.ledger t);
    quiet = λ h. (r.worn h).said;
    windows = λ h. (r.worn h).windows;
    exit = λ h. wears h (M.now b) (r.worn h);
    since = r.since;
    any_moment = λ h. leaves_more M.moment M.left_since a b (Wears (M.now a)) (R (M.now a)) (wears h) (r.any_moment h);
  }

  -- a call that writes, as one that might have given the image more sectors
  pub writes_as_grows : {fault : Option ℕ} {R : Moment → Moment → Type 0} → WritesDisk M fault R a b → GrowsDisk M fault R a b
  writes_as_grows w = record {
    sectors = omega (arith, w.uses.sectors);
    uses = record { sectors = refl; disk = w.uses.disk; input = w.uses.input; output = w.uses.output };
    faults = w.faults;
    trust = w.trust;
    ledger = w.ledger;
    quiet = w.quiet;
    windows = w.windows;
    exit = w.exit;
    since = w.since;
    any_moment = w.any_moment;
  }

  -- a call that writes, as one that might have turned the windows
  pub writes_as_heals : {fault : Option ℕ} {R : Moment → Moment → Type 0} → WritesDisk M fault R a b → HealsDisk M fault a b
  writes_as_heals w = record {
    uses = w.uses;
    faults = w.faults;
    trust = w.trust;
    ledger = w.ledger;
    quiet = w.quiet;
    later = λ h. (w.any_moment h).later;
    since = w.since;
  }

  pub reads_as_heals : {fault : Option ℕ} → OnlyReads M fault a b → HealsDisk M fault a b
  reads_as_heals r = writes_as_heals (reads_as_writes {R = Wears} r (λ h left worn. worn))

  -- the same fault of the disk, told otherwise
  pub reads_told : {was is : Option ℕ} → is ≡ was → OnlyReads M was a b → OnlyReads M is a b
  reads_told same r = subst (λ (fault : Option ℕ). OnlyReads M fault a b) (sym same) r

  pub writes_told : {was is : Option ℕ} {R : Moment → Moment → Type 0} → is ≡ was → WritesDisk M was R a b → WritesDisk M is R a b
  writes_told {R = R} same w = subst (λ (fault : Option ℕ). WritesDisk M fault R a b) (sym same) w

  pub grows_told : {was is : Option ℕ} {R : Moment → Moment → Type 0} → is ≡ was → GrowsDisk M was R a b → GrowsDisk M is R a b
  grows_told {R = R} same g = subst (λ (fault : Option ℕ). GrowsDisk M fault R a b) (sym same) g

  pub heals_told : {was is : Option ℕ} → is ≡ was → HealsDisk M was a b → HealsDisk M is a b
  heals_told same w = subst (λ (fault : Option ℕ). HealsDisk M fault a b) (sym same) w

-- a write behind calls that only read
module _ {D : Type 0} {M : Ghosts D} {a b c : D} where
  pub reads_then_writes : {fault : Option ℕ} {Q R : Moment → Moment → Type 0} → OnlyReads M None a b → WritesDisk M fault Q b c
      → (M.honest b → (left : Moment) → Wears (M.now a) left → R (M.now a) left) → (M.honest c → (left : Moment) → Q (M.now b) left → R (M.now a) left) → WritesDisk M fault R a c
  reads_then_writes {R = R} first second worn_so then_so = writes_then {P = R} (reads_as_writes first worn_so) second (λ h left so. so) then_so

-- ---- a call that turns the windows

tells_place : {T : Type 0} (a b : Report) (place : ℕ) (r : Result T Failed) → DiskCause a b place r → DiskFaults (device_in failed_at r) a b
tells_place a b place (Ok x) cause = (cause.disk.stays, cause.untold)
tells_place a b place (Err failed) cause = record { rose = cause.disk.failed; told = cause.names ∙ sym cause.told }

module _ {D : Type 0} {M : Ghosts D} (a b : D) where
  pub turns : {T : Type 0} (place : ℕ) (r : Result T Failed) → DiskCause (M.report a) (M.report b) place r → (M.report b).sectors ≡ (M.report a).sectors → Trusts (M.tells a) (M.tells b) (M.honest a) (M.honest b)
      → (M.honest b → Elapses (M.moment a) (M.moment b) (M.left_since a) (M.left_since b) (Before (M.now a) (M.now b))) → (M.tells b → M.ledger b ≡ M.ledger a) → (M.honest b → (M.now b).said ≡ (M.now a).said)
      → HealsDisk M (device_in failed_at r) a b
  turns place r cause sectors trust time ledger quiet = record {
    uses = record { sectors = sectors; disk = cause.disk.later; input = cause.input; output = cause.output };
    faults = tells_place (M.report a) (M.report b) place r cause;
    trust = trust;
    ledger = λ t. same_ledger (ledger t);
    quiet = quiet;
    later = λ h. (time h).later;
    since = λ h. (time h).keeps;
  }

-- ---- no call

uses_none : (r : Report) → UsesDisk r r
uses_none r = record { sectors = refl; disk = omega arith; input = refl; output = refl }

module _ {D : Type 0} {M : Ghosts D} (a : D) (only_now : (c : Moment) → M.honest a → M.left_since a (M.moment a) c → c ≡ M.now a) where
  pub reads_none : OnlyReads M None a a
  reads_none = record {
    uses = uses_none (M.report a);
    faults = (refl, refl);
    trust = record { tells = λ t. t; honest = λ h. h };
    ledger = λ t. refl;
    worn = λ h. wears_none (M.now a);
    since = λ h t c le was. was;
    any_moment = λ h. started M.moment M.left_since a (M.now a) (Wears (M.now a)) (λ c left. only_now c h left) (wears_none (M.now a));
  }

  pub writes_none : (R : Moment → Moment → Type 0) → (M.honest a → R (M.now a) (M.now a)) → WritesDisk M None R a a
  writes_none R here = record {
    uses = uses_none (M.report a);
    faults = (refl, refl);
    trust = record { tells = λ t. t; honest = λ h. h };
    ledger = λ t. same_ledger refl;
    quiet = λ h. refl;
    windows = λ h. refl;
    exit = here;
    since = λ h t c le was. was;
    any_moment = λ h. started M.moment M.left_since a (M.now a) (R (M.now a)) (λ c left. only_now c h left) (here h);
  }

  pub leaves_none : (R : Moment → Moment → Type 0) → (M.honest a → R (M.now a) (M.now a)) → LeavesDisk M false false R a a
  leaves_none R here = record {
    spares = record { sectors = refl; place = refl; disk = refl; input = refl; output = refl };
    trust = record { tells = λ t. t; honest = λ h. h };
    exit = here;
    since = λ h t c le was. was;
    any_moment = λ h. started M.moment M.left_since a (M.now a) (R (M.now a)) (λ c left. only_now c h left) (here h);
  }
