-- What is found of the data of versions, one after another.
use Rattle.std.proofs.Common.{◌≡◌, ℕ, ◌+◌, ◌≤◌, Bool, List, [], ◌∷◌, ◌++◌, Option, Some, None, sym, ap, ◌∙◌, subst}
use Rattle.std.specs.Prelude.{Result, Ok, Err}
use Rattle.fsd_bytes.specs.declared.key.Key.{Key}
use Rattle.fsd_bytes.specs.declared.refusal.Refusal.{Refusal}
use Rattle.fsd_bytes.specs.declared.refusal.Refusal.TheVariants as Why
use Rattle.fsd_formats.specs.declared.entry.Entry.{Entry}
use Rattle.fsd_log.specs.Scan.{Placed}
use Rattle.sector_disk.specs.Image.{IsWorn}
use Rattle.sector_disk.specs.Machine.{Moment}
use Rattle.fsd_files.specs.Answers.{entry_after}
use Rattle.fsd_files.specs.Disk.{Image}
use Rattle.fsd_files.specs.declared.reply.Reply.TheVariants.{Found}
use Rattle.fsd_files.specs.Scrub.{Picks, PicksSome, all_data, data_of}
use Rattle.fsd_sound.specs.Mounted.{Mounted}
use Rattle.volume_contract.specs.Ends.{LooksUp}
use Rattle.volume_contract.specs.State.{State, Known, Stands, volume_of}
use Rattle.scrub.specs.Looking.{Adds, HasLooked}
use Rattle.scrub.specs.Walk.{IsFromOutside}
use Rattle.scrub.proofs.LookLaws.{data_append, data_both, data_one_more, picks_both, picks_on, some_both, some_of, some_within}
use Rattle.scrub.proofs.WalkLaws.{walked_all, walked_at, walked_counted, walked_more}

module _ {S : Type 0} (state : S → State) (has : S → Mounted → List Placed → Type 0) (v : S) (k : Known) (now : Moment) (stands : Stands state has v k now)
    (may more_may : ℕ → Bool) (h i j : Image) (first : IsWorn may h i) (second : IsWorn more_may i j) (count : ℕ) (last : Option Key) (found : List (Key × ℕ)) (l : HasLooked (volume_of k).entries count last h i found) where
  -- the same where the image wears on
  pub kept : HasLooked (volume_of k).entries count last h j found
  kept = record { front = l.front; walked = l.walked; picks = picks_on may more_may h i j first second (all_data l.front) found l.picks }

  module _ (e : Entry) (looks : Found (entry_after last (volume_of k).entries) ≡ Found (Some e)) (after : List (Key × ℕ)) where
    pub looked_more : (let done : Result (Unit {0}) Refusal = Ok tt in Adds i j (data_of e) found after done) → HasLooked (volume_of k).entries (count + 1) (Some e.key) h j after
    looked_more adds = record {
      front = l.front ++ e ∷ [];
      walked = walked_more state has v k now stands l.front count last l.walked e looks;
      picks = subst (λ (xs : List (Key × ℕ)). Picks h j xs after) (sym (data_one_more l.front e))
          (subst (Picks h j (all_data l.front ++ data_of e)) (sym adds.is) (picks_both may more_may h i j first second (all_data l.front) (data_of e) found adds.more l.picks adds.finds));
    }

    pub looked_some : (why : Refusal) → (let r : Result (Unit {0}) Refusal = Err why in Adds i j (data_of e) found after r) → PicksSome h j (all_data (volume_of k).entries) after
    looked_some why adds =
        let at = walked_at state has v k now stands l.front count last l.walked e looks in
        subst (λ (xs : List (Key × ℕ)). PicksSome h j xs after) (sym (ap all_data at.1 ∙ data_append l.front e at.0))
        (some_within h j (all_data l.front ++ data_of e) (all_data at.0) after
        (subst (PicksSome h j (all_data l.front ++ data_of e)) (sym adds.is) (some_both may more_may h i j first second (all_data l.front) (data_of e) found adds.more l.picks adds.finds)))

  pub looked_all : Found (entry_after last (volume_of k).entries) ≡ Found None → Picks h j (all_data (volume_of k).entries) found
  looked_all looks = subst (λ (es : List Entry). Picks h j (all_data es) found) (sym (walked_all state has v k now stands l.front count last l.walked looks)) (picks_on may more_may h i j first second (all_data l.front) found l.picks)

  pub looked_counted : (versions : ℕ) → versions ≡ (state v).versions → versions ≤ count → Picks h i (all_data (volume_of k).entries) found
  looked_counted versions asked ended = subst (λ (es : List Entry). Picks h i (all_data es) found) (sym (walked_counted state has v k now stands l.front count last l.walked versions asked ended)) l.picks

  pub looked_kept : PicksSome h j (all_data (volume_of k).entries) found
  looked_kept =
      subst (λ (es : List Entry). PicksSome h j (all_data es) found) (sym l.walked.all)
      (subst (λ (xs : List (Key × ℕ)). PicksSome h j xs found) (sym (data_both l.front l.walked.rest)) (some_of h j (all_data l.front) (all_data l.walked.rest) found (picks_on may more_may h i j first second (all_data l.front) found l.picks)))

-- ---- what a look-up of the next one refuses

pub outside_only : (reply : Option Entry) (why : Refusal) → (let r : Result (Option Entry) Refusal = Err why in LooksUp (Found reply) r) → IsFromOutside why
outside_only reply (Why.Device s) looks = tt
outside_only reply Why.Memory looks = tt
outside_only reply Why.NoSuch looks = absurd (cc looks)
outside_only reply why looks = absurd looks
