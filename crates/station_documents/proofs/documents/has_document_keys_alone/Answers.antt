use Rattle.std.proofs.Common.{◌∙◌}
use Rattle.station_documents.proofs.MemberLemmas.{keys-all}
use Rattle.station_documents.proofs.documents.has_document_keys_alone.Goals as goal
use Rattle.station_documents.specs.Documents.{is_document_key}

pub returns : goal.returns
returns c = c.are_document_keys.ensures ∙ keys-all is_document_key c.args.table.now.entries
