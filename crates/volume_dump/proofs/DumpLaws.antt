-- The parts of a dump, and what is said of them.
use Rattle.std.proofs.Common.{◌≡◌, ℕ, suc, Bool, cond, List, [], ◌∷◌, ◌++◌, length, map, take, Option, Some, refl, sym, ap, ◌∙◌, subst, arith, append_assoc, length-append}
use Rattle.std.specs.Prelude.{IsSome, Result, Err, slice_get}
use Rattle.std.specs.List.{concat}
use Rattle.std.proofs.lemmas.List.{append-nil, length-map}
use Rattle.std.proofs.lemmas.List.Folds.{concat-append}
use Rattle.std.proofs.lemmas.Option.{slice_get-get_or}
use Rattle.std.proofs.Math.Seq.{take-append_seam}
use Rattle.fsd_bytes.specs.declared.key.Serial.{Serial}
use Rattle.fsd_bytes.specs.declared.refusal.Refusal.TheVariants as Why
use Rattle.fsd_dumps.specs.Dump.{end_bytes, head_bytes, item_bytes}
use Rattle.fsd_formats.specs.declared.entry.Entry.{Entry}
use Rattle.sector_disk.specs.Machine.{Moment, Says, Utters}
use Rattle.fsd_files.specs.Disk.{Image}
use Rattle.fsd_files.specs.Files.{Files}
use Rattle.fsd_files.specs.Volume.{Volume}
use Rattle.fsd_runs.specs.declared.span.Span.{Span}
use Rattle.fsd_runs.specs.Dumps.{IsSpoiltAt, chosen, dump_of, dumped_of, latest_of, made_before}
use Rattle.volume_dump.specs.declared.fault.DumpFault.{DumpFault}
use Rattle.volume_dump.specs.declared.fault.DumpFault.TheVariants.{Refused, Found, Cut, Output, Memory}
use Rattle.volume_dump.specs.declared.survey.Tally.{Tally}
use Rattle.volume_dump.specs.Saying.{EndsEntries, EndsSaying, SpoilsEntry, items_of, said_of}
use Rattle.volume_dump.proofs.SurveyLaws.{chosen_both}
use Rattle.volume_dump.proofs.TextLaws.{items_both, says_then, utters_as, utters_behind, utters_more}

abbrev pub head_text : Tally → List ℕ
head_text t = head_bytes t.chosen t.latest

abbrev pub end_text : Tally → List ℕ
end_text t = end_bytes t.chosen

-- as many parts as versions
items_len : (span : Span) (files : Files) (entries : List Entry) → length (items_of span files entries) ≡ length (chosen span entries)
items_len span files entries = length-map (map (dumped_of files) (chosen span entries)) item_bytes ∙ length-map (chosen span entries) (dumped_of files)

slice_behind : {X : Type 0} (xs : List X) (x : X) (ys : List X) → slice_get (xs ++ x ∷ ys) (length xs) ≡ Some x
slice_behind [] x ys = refl
slice_behind (y ∷ xs) x ys = slice_behind xs x ys

spoilt_at : (span : Span) (entries front rest : List Entry) (e : Entry) (j : Image) (s : ℕ) → entries ≡ front ++ e ∷ rest → SpoilsEntry span e j s → IsSpoiltAt j (chosen span entries) (length (chosen span front)) s
spoilt_at span entries front rest e j s all spoils = record {
  entry = e;
  there = ap (λ (es : List Entry). slice_get es (length (chosen span front)))
      (ap (chosen span) all ∙ chosen_both span front (e ∷ rest) ∙ ap (λ (b : Bool). chosen span front ++ cond b (e ∷ chosen span rest) (chosen span rest)) spoils.chosen_is)
      ∙ slice_behind (chosen span front) e (chosen span rest);
  own = spoils.own;
  damaged = spoils.damaged;
}

module _ (span : Span) (v : Volume) (t : Tally) (count : t.chosen ≡ length (chosen span v.entries)) (latest : t.latest ≡ latest_of (made_before span.before v.entries)) where
  abbrev texts : List (List ℕ)
  texts = items_of span v.files v.entries

  abbrev text : List ℕ
  text = said_of span v.files v.entries

  parts_are : dump_of span v ≡ head_text t ∷ (texts ++ end_text t ∷ [])
  parts_are =
      ap (λ (n : ℕ). head_bytes n (latest_of (made_before span.before v.entries)) ∷ (texts ++ end_bytes n ∷ [])) (length-map (chosen span v.entries) (dumped_of v.files) ∙ sym count)
      ∙ ap (λ (s : Serial). head_bytes t.chosen s ∷ (texts ++ end_text t ∷ [])) (sym latest)

  pub whole_text : head_text t ++ (text ++ end_text t) ≡ concat (dump_of span v)
  whole_text = sym (ap concat parts_are ∙ ap (λ (zs : List ℕ). head_text t ++ zs) (concat-append texts (end_text t ∷ []) ∙ ap (λ (zs : List ℕ). text ++ zs) (append-nil (end_text t))))

  module _ (front rest : List Entry) (all : v.entries ≡ front ++ rest) where
    abbrev said_parts : List (List ℕ)
    said_parts = items_of span v.files front

    front_taken : take (suc (length (chosen span front))) (dump_of span v) ≡ head_text t ∷ said_parts
    front_taken =
        let more : List (List ℕ) = items_of span v.files rest ++ end_text t ∷ [] in
        ap (take (suc (length (chosen span front)))) parts_are
        ∙ ap (λ (zs : List (List ℕ)). head_text t ∷ take (length (chosen span front)) (zs ++ end_text t ∷ [])) (ap (items_of span v.files) all ∙ items_both span v.files front rest)
        ∙ ap (λ (zs : List (List ℕ)). head_text t ∷ take (length (chosen span front)) zs) (append_assoc said_parts (items_of span v.files rest) (end_text t ∷ []))
        ∙ ap (λ (zs : List (List ℕ)). head_text t ∷ zs) (subst (λ (n : ℕ). take n (said_parts ++ more) ≡ said_parts) (items_len span v.files front) (take-append_seam said_parts more))

    parts_more : IsSome (slice_get (dump_of span v) (suc (length (chosen span front))))
    parts_more = subst (λ (ps : List (List ℕ)). IsSome (slice_get ps (suc (length (chosen span front))))) (sym parts_are)
        (subst (λ (o : Option (List ℕ)). IsSome o) (sym (slice_get-get_or (texts ++ end_text t ∷ []) (length (chosen span front)) []
        (let many = items_len span v.files v.entries in
        let longer = length-append texts (end_text t ∷ []) in
        let both = ap (λ (es : List Entry). length es) (ap (chosen span) all ∙ chosen_both span front rest) in
        let sum = length-append (chosen span front) (chosen span rest) in omega (arith, many, longer, both, sum)))) refl)

    -- the head is said, and these versions behind it
    front_said : (old mid new : List ℕ) → mid ≡ old ++ head_text t → new ≡ mid ++ said_of span v.files front → new ≡ old ++ concat (take (suc (length (chosen span front))) (dump_of span v))
    front_said old mid new first second =
        second
        ∙ ap (λ (zs : List ℕ). zs ++ said_of span v.files front) first
        ∙ append_assoc old (head_text t) (said_of span v.files front)
        ∙ ap (λ (ps : List (List ℕ)). old ++ concat ps) (sym front_taken)

  -- nothing but the head is said
  module _ (a b c : Moment) (head : b.said ≡ a.said ++ head_text t) where
    pub versions_fail : (T : Type 0) (n : ℕ) (fault : DumpFault) → (let was : Result T DumpFault = Err fault in EndsEntries span v b c was) → (let r : Result ℕ DumpFault = Err fault in EndsSaying span v a c n r)
    versions_fail T n (Cut s) ends = record {
      count = length (chosen span ends.front);
      spoilt = spoilt_at span v.entries ends.front ends.rest ends.entry c.image s ends.all ends.spoils;
      said = front_said ends.front (ends.entry ∷ ends.rest) ends.all a.said b.said c.said head ends.said;
    }
    versions_fail T n Output ends = tt
    versions_fail T n Memory ends = record {
      count = suc (length (chosen span ends.front));
      more = parts_more ends.front ends.rest ends.all;
      said = front_said ends.front ends.rest ends.all a.said b.said c.said head ends.said;
    }
    versions_fail T n (Refused (Why.Device s)) ends = record {
      count = suc (length (chosen span ends.front));
      more = parts_more ends.front ends.rest ends.all;
      said = front_said ends.front ends.rest ends.all a.said b.said c.said head ends.said;
    }
    versions_fail T n (Refused why) ends = absurd ends
    versions_fail T n (Found found) ends = absurd ends

  -- ---- what a stop leaves

  pub head_uttered : (a left : Moment) → Utters (head_text t) a left → Utters (concat (dump_of span v)) a left
  head_uttered a left u = utters_as (head_text t ++ (text ++ end_text t)) _ a left whole_text (utters_more (head_text t) (text ++ end_text t) a left u)

  module _ (a b : Moment) (head : Says (head_text t) a b) where
    pub versions_uttered : (left : Moment) → Utters text b left → Utters (concat (dump_of span v)) a left
    versions_uttered left u = utters_as (head_text t ++ (text ++ end_text t)) _ a left whole_text (utters_behind (head_text t) (text ++ end_text t) a b left head (utters_more text (end_text t) b left u))

    module _ (c : Moment) (versions : Says text b c) where
      pub end_uttered : (left : Moment) → Utters (end_text t) c left → Utters (concat (dump_of span v)) a left
      end_uttered left u = utters_as (head_text t ++ (text ++ end_text t)) _ a left whole_text (utters_behind (head_text t) (text ++ end_text t) a b left head (utters_behind text (end_text t) b c left versions u))

      pub whole_said : (d : Moment) → Says (end_text t) c d → d.said ≡ a.said ++ concat (dump_of span v)
      whole_said d end = (says_then (head_text t) (text ++ end_text t) a b d head (says_then text (end_text t) b c d versions end)).said ∙ ap (λ (zs : List ℕ). a.said ++ zs) whole_text
