use Rattle.rising.proofs.Placing.{put_rises, without_rises, at_put, at_put_other, at_without_same, at_without, filter_rises}
use Rattle.rising.proofs.Splitting.{put_same}
use Rattle.rising.proofs.laws.rising_lists.Goals as goal

pub returns : goal.returns
returns g c = record {
  part = filter_rises g.T.Keyed.place;
  put_rises = put_rises g.T.Keyed.place;
  put_there = at_put g.T.Keyed.place;
  put_elsewhere = at_put_other g.T.Keyed.place;
  put_same = put_same g.T.Keyed.place;
  without_rises = without_rises g.T.Keyed.place;
  taken = at_without_same g.T.Keyed.place;
  taken_elsewhere = at_without g.T.Keyed.place;
}
