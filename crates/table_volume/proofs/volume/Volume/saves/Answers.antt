use Rattle.std.proofs.Common.{◌≡◌, ℕ, ◌-◌, ◌&&◌, ◌==◌, nat_le, rules, sym, ap, ◌∙◌}
use Rattle.volume_layout.specs.Layout.{map_sectors}
use Rattle.volume_contract.specs.Closing.{pages_in_use}
use Rattle.volume_laws.specs.Saving.{saves_now}
use Rattle.volume_laws.specs.State.{state}
use Rattle.volume_laws.specs.Volume.{VolumeValue}
use Rattle.volume_laws.proofs.CountLaws.{count_of_flags}
use Rattle.table_volume.proofs.volume.Volume.saves.Goals as goal

pub returns-then-waiting-eq0 : goal.returns-then-waiting-eq0
returns-then-waiting-eq0 c =
    let s = c.self.inside in
    let v : VolumeValue = record { layout = s.layout; map = s.map; shadow = s.shadow; log = s.log; cache = s.table.cache; free_pages = s.table.free_pages; serial = s.serial; versions = s.versions; down = s.down } in
    let none : c.waiting.result.all ≡ 0 = search rules in
    let free = c.count.ensures ∙ sym (count_of_flags s.table.free_pages) in
    let pages : c.pages.result - c.count.result ≡ pages_in_use (state v) = λ i. c.pages.ensures.value i - free i in
    (λ i. nat_le (c.map_sectors.ensures.value i) (pages i))
    ∙ sym (ap (λ (n : ℕ). (n == 0) && nat_le (map_sectors s.layout) (pages_in_use (state v))) (sym c.waiting.ensures.all ∙ none))
    ∙ ap (λ (x : VolumeValue). saves_now (state x)) c.self.view_is
