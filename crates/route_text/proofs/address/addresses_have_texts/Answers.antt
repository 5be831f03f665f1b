use Rattle.route_text.proofs.api.Addresses.{IsAddressText_unique}
use Rattle.route_text.proofs.Fields.{address_text_read}
use Rattle.route_text.proofs.address.addresses_have_texts.Goals as goal

pub returns-clause-again : goal.returns-clause-again
returns-clause-again c = address_text_read

pub returns-clause-one : goal.returns-clause-one
returns-clause-one c = IsAddressText_unique
