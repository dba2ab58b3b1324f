-- A version that a put has made, and what the calls behind the put make of it.
use Rattle.std.proofs.Common.{◌≡◌, ℕ, List, [], length, Option, Some, None, sym, ◌∙◌, ap, subst, arith}
use Rattle.std.specs.Prelude.{Err, Ok, Result}
use Rattle.std.specs.FinMap.{find}
use Rattle.std.proofs.lemmas.List.{append-nil}
use Rattle.fsd_bytes.specs.declared.key.Key.{Key}
use Rattle.fsd_bytes.specs.declared.refusal.Refusal.{Refusal}
use Rattle.fsd_bytes.specs.declared.refusal.Refusal.TheVariants as Why
use Rattle.fsd_bytes.specs.Keys.{key_cmp}
use Rattle.fsd_formats.specs.declared.entry.Entry.{Entry}
use Rattle.fsd_formats.specs.NamePage.{sectors_for}
use Rattle.sector_disk.specs.Machine.{Moment, Wears}
use Rattle.fsd_log.specs.Scan.{Placed}
use Rattle.fsd_files.specs.Answers.{Met, Outcome, entry_of, force_outcome, put_outcome}
use Rattle.fsd_files.specs.Disk.{Image}
use Rattle.fsd_files.specs.Files.{Change, File}
use Rattle.fsd_files.specs.declared.reply.Reply.{Reply}
use Rattle.fsd_files.specs.declared.reply.Reply.TheVariants.{Forced}
use Rattle.fsd_files.specs.Volume.{Volume}
use Rattle.fsd_sound.specs.Mounted.{Mounted}
use Rattle.volume_contract.specs.Ends.{AnswersAndStands, EndsForce, MakesVersion, ReadsRange, made_key}
use Rattle.volume_contract.specs.State.{State, Known, Stands, volume_of}
use Rattle.volume_example.specs.Filling.{HasBytes, HasPut, IsUnreadCause}
use Rattle.volume_example.specs.Forcing.{IsCommitted, IsDown}
use Rattle.volume_example.proofs.PutLaws.{IsMade, file_there, is_made, made_bytes}
use Rattle.volume_example.proofs.ReadLaws.{gives_whole, is_unread}

module _ {S : Type 0} (state : S → State) (has : S → Mounted → List Placed → Type 0) (name bytes : List ℕ) (k : Known) (mid : S) (at : Moment) (key : Key)
    (made : MakesVersion state has (λ met. put_outcome met (volume_of k) name bytes None) (made_key (length bytes) key) bytes (Change.Put name None bytes) k mid at key) where
  pub is_put : IsMade name bytes None key (volume_of k) (volume_of made.after)
  is_put = is_made name bytes None key (sectors_for (length bytes)) (volume_of k) (volume_of made.after) made.answers.met made.answers.is

  file : (f : File) × (find key_cmp key (volume_of made.after).files ≡ Some f)
  file = file_there key (volume_of made.after).files (volume_of made.after).entries made.stands.disk.described.lists made.entry made.entered

  has_bytes : HasBytes key bytes made.after
  has_bytes = record { file = file.0; there = file.1; same = made_bytes name bytes None key (volume_of k) (volume_of made.after) is_put file.0 file.1 }

  pub has_put : (new : S) (now : Moment) → Stands state has new made.after now → HasPut state has name bytes k new now key
  has_put new now stands = record { after = made.after; stands = stands; changes = made.answers.changes; version = has_bytes }

  -- a read is of this file and this entry
  reads_it : (j : Image) (old new : List ℕ) (r : Result ℕ Refusal) → ReadsRange at.image j (find key_cmp key (volume_of made.after).files) (entry_of key (volume_of made.after).entries) 0 old new r
      → ReadsRange at.image j (Some file.0) (Some made.entry) 0 old new r
  reads_it j old new r reads = subst (λ (e : Option Entry). ReadsRange at.image j (Some file.0) e 0 old new r) made.entered
      (subst (λ (f : Option File). ReadsRange at.image j f (entry_of key (volume_of made.after).entries) 0 old new r) file.1 reads)

  pub reads_put : (j : Image) (old new : List ℕ) (n : ℕ) → length old ≡ length bytes → ReadsRange at.image j (find key_cmp key (volume_of made.after).files) (entry_of key (volume_of made.after).entries) 0 old new (Ok n) → new ≡ bytes
  unfolding file has_bytes
  reads_put j old new n fits reads = gives_whole at.image file.0 made.entry bytes old new n has_bytes.same fits (reads_it j old new (Ok n) reads)

  pub unread_put : (now : Moment) → Wears at now → (old new : List ℕ) (why : Refusal) → ReadsRange at.image now.image (find key_cmp key (volume_of made.after).files) (entry_of key (volume_of made.after).entries) 0 old new (Err why) → IsUnreadCause now why
  unread_put now wears old new why reads = is_unread at now wears bytes file.0 made.entry old new made.written why (reads_it now.image old new (Err why) reads)

  pub committed : (new : S) (now : Moment) → AnswersAndStands state has (λ met. force_outcome (volume_of made.after)) Forced [] made.after new now → IsCommitted state has name bytes k new now key
  unfolding file has_bytes
  committed new now answered =
      let after = answered.0 in
      let answers = answered.1 in
      let is = ap (λ (x : Outcome). x.1) answers.is in
      let none = ap (λ (w : Volume). w.unforced) is in
      record {
        put = record {
          after = after;
          stands = answered.2;
          changes = answers.changes ∙ append-nil made.after.changes ∙ made.answers.changes;
          version = record { file = file.0; there = ap (λ (w : Volume). find key_cmp key w.files) (sym is) ∙ file.1; same = has_bytes.same };
        };
        forced = omega (arith, none);
      }

-- a call behind it that only reads
pub still_committed : {S : Type 0} (state : S → State) (has : S → Mounted → List Placed → Type 0) (name bytes : List ℕ) (k : Known) (new : S) (mid now : Moment) (key : Key) → ((after : Known) → Stands state has new after mid → Stands state has new after now)
    → IsCommitted state has name bytes k new mid key → IsCommitted state has name bytes k new now key
still_committed state has name bytes k new mid now key stays is = record {
  put = record { after = is.put.after; stands = stays is.put.after is.put.stands; changes = is.put.changes; version = is.put.version };
  forced = is.forced;
}

-- a force that fails leaves the volume down
pub force_down : {S : Type 0} (state : S → State) (has : S → Mounted → List Placed → Type 0) (T : Type 0) (outcome : Met → Outcome) (reply : Reply) (k : Known) (new : S) (now : Moment) (why : Refusal)
    → EndsForce state has {T = T} outcome reply k new now (Err why) → IsDown state has new why
force_down state has T outcome reply k new now (Why.Device s) ends = ends
force_down state has T outcome reply k new now why ends = absurd ends
