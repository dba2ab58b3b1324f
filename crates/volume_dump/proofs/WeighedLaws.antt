-- Entries that are weighed, one after another.
use Rattle.std.proofs.Common.{◌≡◌, ℕ, ◌+◌, ◌≤◌, Bool, true, false, List, [], ◌∷◌, ◌++◌, length, map, Option, Some, None, sym, ap, ◌∙◌, arith, length-append}
use Rattle.std.specs.Prelude.{cond}
use Rattle.std.proofs.lemmas.List.{map-append}
use Rattle.std.proofs.lemmas.List.Elements.{filter-append}
use Rattle.fsd_bytes.specs.declared.key.Key.{Key}
use Rattle.fsd_bytes.specs.declared.key.Serial.{Serial}
use Rattle.fsd_formats.specs.declared.entry.Entry.{Entry}
use Rattle.fsd_log.specs.Scan.{Placed}
use Rattle.fsd_runs.specs.Dumps.{all_since, chosen, is_in_span, weight_of, weights_since}
use Rattle.sector_disk.specs.Machine.{Moment}
use Rattle.fsd_files.specs.Answers.{entry_after}
use Rattle.fsd_files.specs.declared.reply.Reply.TheVariants.{Found}
use Rattle.fsd_sound.specs.Mounted.{Mounted}
use Rattle.volume_contract.specs.State.{Known, Stands, State, volume_of}
use Rattle.scrub.proofs.WalkLaws.{walked_all, walked_counted, walked_more}
use Rattle.fsd_runs.specs.declared.span.Weight.{Weight}
use Rattle.volume_dump.specs.Weighing.{HasWeighed}

weights_both : (since : Serial) (xs ys : List Entry) → weights_since since (xs ++ ys) ≡ weights_since since xs ++ weights_since since ys
weights_both since xs ys =
    ap (λ (es : List Entry). map weight_of es) (filter-append (λ e. is_in_span (all_since since) e.serial) xs ys)
    ∙ map-append weight_of (chosen (all_since since) xs) (chosen (all_since since) ys)

one_weight : (is : Bool) (e : Entry) → length (map weight_of (cond is (e ∷ []) [])) ≤ 1
one_weight true e = omega arith
one_weight false e = omega arith

-- one entry more is one more at most
pub one_more : (since : Serial) (e : Entry) (before after : List Weight) → after ≡ before ++ weights_since since (e ∷ []) → length after ≤ length before + 1
one_more since e before after is =
    let long = ap (λ (ws : List Weight). length ws) is ∙ length-append before (weights_since since (e ∷ [])) in
    let most = one_weight (is_in_span (all_since since) e.serial) e in
    omega (arith, long, most)

module _ {S : Type 0} (state : S → State) (has : S → Mounted → List Placed → Type 0) (v : S) (k : Known) (now : Moment) (stands : Stands state has v k now)
    (since : Serial) (count : ℕ) (last : Option Key) (weights : List Weight) (w : HasWeighed since (volume_of k).entries count last weights) where
  pub weigh_more : (e : Entry) → Found (entry_after last (volume_of k).entries) ≡ Found (Some e) → (after : List Weight) → after ≡ weights ++ weights_since since (e ∷ []) → HasWeighed since (volume_of k).entries (count + 1) (Some e.key) after
  weigh_more e looks after is = record {
    front = w.front ++ e ∷ [];
    walked = walked_more state has v k now stands w.front count last w.walked e looks;
    weighed = is ∙ ap (λ (ws : List Weight). ws ++ weights_since since (e ∷ [])) w.weighed ∙ sym (weights_both since w.front (e ∷ []));
  }

  pub weigh_all : Found (entry_after last (volume_of k).entries) ≡ Found None → weights ≡ weights_since since (volume_of k).entries
  weigh_all looks = w.weighed ∙ ap (weights_since since) (sym (walked_all state has v k now stands w.front count last w.walked looks))

  pub weigh_counted : (versions : ℕ) → versions ≡ (state v).versions → versions ≤ count → weights ≡ weights_since since (volume_of k).entries
  weigh_counted versions asked ended = w.weighed ∙ ap (weights_since since) (sym (walked_counted state has v k now stands w.front count last w.walked versions asked ended))
