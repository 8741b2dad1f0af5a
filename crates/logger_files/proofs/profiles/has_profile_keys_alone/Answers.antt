use Rattle.std.proofs.Common.{◌∙◌}
use Rattle.station_documents.proofs.MemberLemmas.{keys-all}
use Rattle.logger_files.proofs.profiles.has_profile_keys_alone.Goals as goal
use Rattle.logger_files.specs.Profiles.{is_profile_key}

pub returns : goal.returns
returns c = c.are_profile_keys.ensures ∙ keys-all is_profile_key c.args.table.now.entries
