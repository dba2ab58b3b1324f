-- Worked examples of what a script says of replies, byte by byte, computed.
use Rattle.std.proofs.Common.{◌≡◌, [], ◌∷◌, map, refl, codes}
use Rattle.std.specs.Fmt.{digits}
use Rattle.fsd_bytes.specs.declared.refusal.Refusal.TheVariants.{NoSuch}
use Rattle.fsd_bytes.specs.Keys.{key_of}
use Rattle.fsd_formats.specs.declared.entry.Entry.{Entry}
use Rattle.fsd_files.specs.declared.reply.Reply.TheVariants.{Refused, Made, Deleted, Kept, Moved, Listed, Bytes, DamagedAt, Forced, Scrubbed, Upgraded, Grown, Begun, Took, Dropped, Opened, Given, Done}
use Rattle.fsd_runs.specs.Commands.{reply_text}
use Rattle.fsd_runs.proofs.Plain.{lines}

abbrev listed : Entry
listed = record { key = key_of (codes "a/b") 1; keep = 0; serial = record { epoch = 2; count = 1 }; length = 513; runs = [] }

of_a_volume : map reply_text (Refused NoSuch ∷ Made (key_of (codes "a") 1) 2 ∷ Deleted (key_of (codes "a") 1) ∷ Kept (key_of (codes "a") 12) 7 ∷ Moved (key_of (codes "a") 1) (key_of (codes "b/c") 12) ∷ Listed [] ∷ Listed (listed ∷ []) ∷ Bytes (key_of (codes "a") 1) [] ∷ Bytes (key_of (codes "a") 1) (codes "xy")
    ∷ DamagedAt (key_of (codes "g") 1) 923 ∷ Forced ∷ Scrubbed [] 0 ∷ Scrubbed ((key_of (codes "g") 1, 923) ∷ []) 4 ∷ Upgraded ∷ Grown 3968 3047 ∷ [])
    ≡ map lines ((codes "refused no-such" ∷ []) ∷ (codes "made a!1 2" ∷ []) ∷ (codes "deleted a!1" ∷ []) ∷ (codes "kept a!12 7" ∷ []) ∷ (codes "moved a!1 b/c!12" ∷ []) ∷ (codes "listed 0" ∷ []) ∷ (codes "a/b!1 513 3 0" ∷ codes "listed 1" ∷ []) ∷ (codes "bytes a!1 0" ∷ codes "" ∷ [])
    ∷ (codes "bytes a!1 2" ∷ codes "xy" ∷ []) ∷ (codes "damaged g!1 923" ∷ []) ∷ (codes "forced" ∷ []) ∷ (codes "scrubbed healed 0 damaged 0" ∷ []) ∷ (codes "damaged g!1 923" ∷ codes "scrubbed healed 4 damaged 1" ∷ []) ∷ (codes "upgraded 2" ∷ []) ∷ (codes "grown 3968 free 3047" ∷ []) ∷ [])
unfolding digits
of_a_volume = refl

of_clients : map reply_text (Begun 1 ∷ Took 2 512 ∷ Dropped 3 ∷ Opened 4 600 ∷ Given 5 [] ∷ Given 6 (codes "xy") ∷ Done 8 ∷ [])
    ≡ map lines ((codes "begun 1" ∷ []) ∷ (codes "took 2 512" ∷ []) ∷ (codes "dropped 3" ∷ []) ∷ (codes "opened 4 600" ∷ []) ∷ (codes "next 5 0" ∷ codes "" ∷ []) ∷ (codes "next 6 2" ∷ codes "xy" ∷ []) ∷ (codes "done 8" ∷ []) ∷ [])
unfolding digits
of_clients = refl
