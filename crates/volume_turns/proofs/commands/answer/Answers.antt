use Rattle.volume_turns.proofs.commands.answer.Goals as goal

pub returns-in-Put : goal.returns-in-Put
returns-in-Put g c = rw (c.in-Put.is, ← c.as_slice.ensures) c.put.ensures

pub returns-in-Delete : goal.returns-in-Delete
returns-in-Delete g c = rw c.in-Delete.is c.delete.ensures

pub returns-in-Keep : goal.returns-in-Keep
returns-in-Keep g c = rw c.in-Keep.is c.set_keep.ensures

pub returns-in-Move : goal.returns-in-Move
returns-in-Move g c = rw c.in-Move.is c.move_version.ensures

pub returns-in-Load : goal.returns-in-Load
returns-in-Load g c = rw (c.in-Load.is, ← c.as_key.ensures.same, ← c.as_slice-in-Load.ensures) c.load.ensures

pub returns-in-Get : goal.returns-in-Get
returns-in-Get g c = rw c.in-Get.is c.get.ensures

pub returns-in-Force : goal.returns-in-Force
returns-in-Force g c = rw c.in-Force.is c.force.ensures

pub returns-in-Tick : goal.returns-in-Tick
returns-in-Tick g c = rw c.in-Tick.is c.tick.ensures

pub returns-in-List : goal.returns-in-List
returns-in-List g c = rw c.in-List.is c.list.ensures

pub returns-in-Stat : goal.returns-in-Stat
returns-in-Stat g c = rw c.in-Stat.is c.count.ensures

pub returns-in-Scrub : goal.returns-in-Scrub
returns-in-Scrub g c = rw c.in-Scrub.is c.scrub_all.ensures
