use Rattle.fsd_texts.proofs.FrameLaws.{bad_stays, cut, pieces_are_one, short_is_few, spelled_is_read, whole_stays}
use Rattle.desk_wire.proofs.laws.frames_are_given_whole.Goals as goal

pub returns-clause-stays : goal.returns-clause-stays
returns-clause-stays c = whole_stays

pub returns-clause-bad : goal.returns-clause-bad
returns-clause-bad c = bad_stays

pub returns-clause-cut : goal.returns-clause-cut
returns-clause-cut c = cut

pub returns-clause-pieces : goal.returns-clause-pieces
returns-clause-pieces c = pieces_are_one

pub returns-clause-few : goal.returns-clause-few
returns-clause-few c = short_is_few

pub returns-clause-spelled : goal.returns-clause-spelled
returns-clause-spelled c = spelled_is_read
