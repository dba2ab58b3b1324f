-- Turns that change nothing and force nothing, as those of a dump.
use Rattle.std.proofs.Common.{◌≡◌, ⊎_elim, inl, ℕ, zero, suc, ◌+◌, ◌-◌, ◌<◌, ◌≤◌, List, [], ◌∷◌, ◌++◌, length, map, take, Option, Some, None, refl, sym, ◌∙◌, ap, subst, arith, append_assoc}
use Rattle.std.specs.Prelude.{IsSome, slice_get}
use Rattle.std.specs.List.{AllByRecursion}
use Rattle.std.proofs.Math.Seq.{take-append-add}
use Rattle.std.proofs.lemmas.Bool.{cases_lt}
use Rattle.std.proofs.lemmas.List.{append-nil, take-append-le}
use Rattle.sector_disk.specs.declared.machine.Machine.{Ghosts}
use Rattle.sector_disk.specs.Calls.{IsHeld, IsTimed}
use Rattle.sector_disk.specs.Machine.{Moment}
use Rattle.fsd_files.specs.Disk.{Image}
use Rattle.fsd_files.specs.Files.{Change}
use Rattle.fsd_sound.specs.Sound.{IsSound}
use Rattle.fsd_texts.specs.declared.fault.Fault.{Fault}
use Rattle.fsd_runs.specs.Errands.{Turn}
use Rattle.fsd_runs.specs.Leaves.{BeginsOnly, SaysNext}
use Rattle.fsd_runs.specs.Runs.{changes_in, forced_in, said_in}
use Rattle.volume_contract.specs.State.{Known, forced_of, volume_of}
use Rattle.volume_turns.specs.Turns.{EndsAtOnce, InRun}
use Rattle.volume_turns.specs.Whole.{Halted}
use Rattle.volume_turns.proofs.LineLaws.{none_of_input}
use Rattle.volume_turns.proofs.TurnLaws.{forced_most, now_held}

abbrev pub IsPlain : Turn → Type 0
IsPlain t = t.changes ≡ []

abbrev pub ArePlain : List Turn → Type 0
ArePlain turns = AllByRecursion IsPlain turns

pub plain_take : (n : ℕ) (turns : List Turn) → ArePlain turns → ArePlain (take n turns)
plain_take zero turns plain = tt
plain_take (suc n) [] plain = tt
plain_take (suc n) (t ∷ turns) plain = (plain.0, plain_take n turns plain.1)

pub plain_map : {A : Type 0} (f : A → Turn) → ((x : A) → IsPlain (f x)) → (xs : List A) → ArePlain (map f xs)
plain_map f each [] = tt
plain_map f each (x ∷ xs) = (each x, plain_map f each xs)

pub plain_changes : (turns : List Turn) → ArePlain turns → changes_in turns ≡ []
plain_changes [] plain = refl
plain_changes (t ∷ turns) plain = ap (λ (h : List Change). h ++ changes_in turns) plain.0 ∙ plain_changes turns plain.1

-- ---- some first bytes of what they say

-- some first bytes of the next one, not all, or nothing behind the last one
abbrev BeginsNext : Option Turn → List ℕ → Type 0
BeginsNext None part = part ≡ []
BeginsNext (Some t) part = BeginsOnly t.said part

record SplitAt (turns : List Turn) (bytes : List ℕ) : Type 0 where
  whole : ℕ
  part : List ℕ
  is : bytes ≡ said_in (take whole turns) ++ part
  next : BeginsNext (slice_get turns whole) part

take_none : (n : ℕ) → take n (said_in []) ≡ []
take_none zero = refl
take_none (suc n) = refl

split_long : (t : Turn) (turns : List Turn) (n : ℕ) → length t.said ≤ n → SplitAt turns (take (n - length t.said) (said_in turns)) → SplitAt (t ∷ turns) (take n (said_in (t ∷ turns)))
split_long t turns n long s = record {
  whole = suc s.whole;
  part = s.part;
  is = ap (λ (m : ℕ). take m (t.said ++ said_in turns)) (let same : n ≡ length t.said + (n - length t.said) = omega (arith, long) in same) ∙ take-append-add t.said (said_in turns) (n - length t.said)
      ∙ ap (λ (x : List ℕ). t.said ++ x) s.is ∙ sym (append_assoc t.said (said_in (take s.whole turns)) s.part);
  next = s.next;
}

split_short : (t : Turn) (turns : List Turn) (n : ℕ) → n < length t.said → SplitAt (t ∷ turns) (take n (said_in (t ∷ turns)))
split_short t turns n short = record { whole = 0; part = take n t.said; is = take-append-le n t.said (said_in turns) (omega (arith, short)); next = (n, short, refl) }

split_at : (turns : List Turn) (n : ℕ) → SplitAt turns (take n (said_in turns))
split_at [] n = record { whole = 0; part = []; is = take_none n; next = refl }
split_at (t ∷ turns) n = ⊎_elim (λ short. split_short t turns n short) (λ long. split_long t turns n long (split_at turns (n - length t.said))) (cases_lt n (length t.said))

-- ---- what a stop leaves of them

module _ (k : Known) (none : (volume_of k).unforced ≡ 0) (turns : List Turn) (plain : ArePlain turns) where
  all : forced_of k ≡ length k.changes
  all = omega (arith, none)

  no_changes : (n : ℕ) → changes_in (take n turns) ≡ []
  no_changes n = plain_changes (take n turns) (plain_take n turns plain)

  enough : (n : ℕ) → length k.changes + forced_in (take n turns) ≤ forced_of k
  enough n = let few = forced_most (take n turns) in let no = ap (λ (h : List Change). length h) (no_changes n) in let same = all in omega (arith, few, no, same)

  same_changes : (n : ℕ) → k.changes ≡ k.changes ++ changes_in (take n turns)
  same_changes n = sym (ap (λ (h : List Change). k.changes ++ h) (no_changes n) ∙ append-nil k.changes)

  sound_at : (n : ℕ) (i : Image) → IsSound k.mounted.volume.layout k.windows k.changes (forced_of k) i → IsSound k.mounted.volume.layout k.windows (k.changes ++ changes_in (take n turns)) (forced_of k) i
  sound_at n i sound = subst (λ (h : List Change). IsSound k.mounted.volume.layout k.windows h (forced_of k) i) (same_changes n) sound

  next_of : (Forced : Type 0) → Forced → (o : Option Turn) (part : List ℕ) → BeginsNext o part → SaysNext Forced o part
  next_of Forced forced None part next = next
  next_of Forced forced (Some t) part next = inl (next, λ some forces. forced)

  pub in_plain : (old left : Moment) → left.windows ≡ old.windows → IsSound k.mounted.volume.layout k.windows k.changes (forced_of k) left.image → (n : ℕ) → left.said ≡ old.said ++ take n (said_in turns) → InRun k (forced_of k) turns old left
  in_plain old left windows sound n said =
      let s = split_at turns n in
      record {
        windows = windows;
        whole = s.whole;
        part = s.part;
        said = said ∙ ap (λ (x : List ℕ). old.said ++ x) s.is;
        forced = forced_of k;
        next = next_of (length k.changes + forced_in (take (suc s.whole) turns) ≤ forced_of k) (enough (suc s.whole)) (slice_get turns s.whole) s.part s.next;
        least = omega arith;
        enough = λ any. enough s.whole;
        sound = sound_at (suc s.whole) left.image sound;
      }

  -- between two of them, where a fault ends them at once
  pub plain_halts : {D : Type 0} (M : Ghosts D) (why : Fault) (once : EndsAtOnce why) (a b : D) → IsTimed M b → (M.now b).windows ≡ (M.now a).windows → (whole : ℕ) → IsSome (slice_get turns whole) → (M.now b).said ≡ (M.now a).said ++ said_in (take whole turns)
      → IsHeld M b (λ c. IsSound k.mounted.volume.layout k.windows k.changes (forced_of k) c.image) → Halted M k why turns a b
  plain_halts M why once a b timed windows whole more said held = record {
    windows = windows;
    whole = whole;
    more = more;
    said = said;
    forced = forced_of k;
    least = omega arith;
    enough = λ any. enough whole;
    sound = λ c left. sound_at (suc whole) c.image (held c left);
    undone = λ is. record {
      forced = forced_of k;
      least = omega arith;
      enough = λ any. enough whole;
      sound = sound_at whole (M.now b).image (now_held M b (λ c. IsSound k.mounted.volume.layout k.windows k.changes (forced_of k) c.image) timed held);
    };
    unread = λ is. absurd (none_of_input why once is);
  }

  -- with all of them said
  pub all_changes : k.changes ++ changes_in turns ≡ k.changes
  all_changes = ap (λ (h : List Change). k.changes ++ h) (plain_changes turns plain) ∙ append-nil k.changes

  pub sound_all : (i : Image) → IsSound k.mounted.volume.layout k.windows k.changes (forced_of k) i → IsSound k.mounted.volume.layout k.windows (k.changes ++ changes_in turns) (length (k.changes ++ changes_in turns)) i
  sound_all i sound =
      subst (λ (h : List Change). IsSound k.mounted.volume.layout k.windows h (length h) i) (sym all_changes)
      (subst (λ (n : ℕ). IsSound k.mounted.volume.layout k.windows k.changes n i) all sound)
