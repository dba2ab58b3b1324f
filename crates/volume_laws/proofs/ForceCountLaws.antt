-- How many sectors a force has written.
use Rattle.std.proofs.Common.{◌≡◌, ℕ, ◌+◌, ◌*◌, ◌≤◌, Bool, true, false, cond, not, ◌||◌, ◌&&◌, ◌==◌, nat_le, nat_lt, length, refl, sym, subst, ◌∙◌, arith}
use Rattle.std.proofs.lemmas.Bool.{eqb-true, le-leb, le-ltb, leb-false, leb-true, lt-leb, lt-ltb, ltb-false, ltb-true}
use Rattle.volume_layout.specs.declared.layout.Layout.{Layout}
use Rattle.fsd_formats.specs.Record.{record_len}
use Rattle.group_commit.specs.Force.{sectors_written}
use Rattle.group_commit.specs.Room.{pages_in_first, sectors_before}
use Rattle.group_commit.proofs.CachedLaws.{written_some}
use Rattle.volume_contract.specs.State.{enters_again, force_len, homed}
use Rattle.volume_laws.specs.State.{state}
use Rattle.volume_laws.specs.Volume.{IsWholeVolume, VolumeValue}
use Rattle.volume_layout.specs.Kinds.{gap_of}

less_flips : (a b : ℕ) → nat_lt b a ≡ not (nat_le a b)
less_flips a b = by (nat_le a b) refl
  where
    by : (t : Bool) → nat_le a b ≡ t → nat_lt b a ≡ not t
    by true is = le-ltb b a (leb-true a b is)
    by false is = lt-ltb b a (leb-false a b is)

most_flips : (a b : ℕ) → nat_le a b ≡ not (nat_lt b a)
most_flips a b = by (nat_lt b a) refl
  where
    by : (t : Bool) → nat_lt b a ≡ t → nat_le a b ≡ not t
    by true is = lt-leb a b (ltb-true b a is)
    by false is = le-leb a b (ltb-false b a is)

not_either : (a b : Bool) → (not a && not b) ≡ not (a || b)
not_either true b = refl
not_either false b = refl

-- a record is laid in the first third exactly where it doesn't go before it
pub again_is : (at end thirds : ℕ) → (nat_lt end at && nat_le thirds end) ≡ not (nat_le at end || nat_lt end thirds)
again_is at end thirds = (λ i. less_flips at end i && most_flips thirds end i) ∙ not_either (nat_le at end) (nat_lt end thirds)

in_turn : (before again : Bool) (n count : ℕ) → again ≡ not before → cond before 0 n + count ≡ count + cond again n 0
in_turn before again n count is = subst (λ (b : Bool). cond before 0 n + count ≡ count + cond b n 0) (sym is) (by before)
  where
    by : (b : Bool) → cond b 0 n + count ≡ count + cond (not b) n 0
    by true = omega arith
    by false = omega arith

pub some_pages : (n : ℕ) → 1 ≤ n → (n == 0) ≡ false
some_pages n some = by (n == 0) refl
  where
    by : (b : Bool) → (n == 0) ≡ b → b ≡ false
    by true e = absurd (let none = eqb-true n 0 e in omega (arith, some, none))
    by false e = refl

pub forced_count : (v w : VolumeValue) → v ≡ w → IsWholeVolume v → 1 ≤ length v.cache.dirty → sectors_written v.log v.cache.dirty ≡ force_len (state w)
forced_count v w is whole some =
    let n = length v.cache.dirty in
    let log = v.log in
    let here = in_turn (nat_le (log.head.at + record_len (gap_of log.layout) n) log.head.end || nat_lt log.head.end (3 * log.layout.third)) (nat_lt log.head.end (log.head.at + record_len (gap_of log.layout) n) && nat_le (3 * log.layout.third) log.head.end)
    (2 * pages_in_first log + 2) (record_len (gap_of log.layout) n) (again_is (log.head.at + record_len (gap_of log.layout) n) log.head.end (3 * log.layout.third)) in
    subst (λ (x : VolumeValue). sectors_written v.log v.cache.dirty ≡ force_len (state x)) is
    (written_some v.log v.cache.dirty some
    ∙ subst (λ (b : Bool). sectors_before log n + record_len (gap_of log.layout) n ≡ cond b 0 (record_len (gap_of v.layout) n + cond (enters_again (state v)) (2 * homed (state v) + 2) 0)) (sym (some_pages n some))
    (subst (λ (l : Layout). sectors_before log n + record_len (gap_of log.layout) n ≡ record_len (gap_of l) n + cond (enters_again (record (state v) { layout = l })) (2 * homed (record (state v) { layout = l }) + 2) 0) whole.log here))
