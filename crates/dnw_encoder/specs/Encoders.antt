-- What a contract sees of an encoder.
use Rattle.dnw_encoder.specs.State.{State, writes_pointers}
use Rattle.dnw_encoder.specs.declared.encoder.BinEncoder.{BinEncoder}

abbrev pub state : BinEncoder → State
state e = record {
  octets = e.buffer.now.items;
  offset = e.offset;
  maximum = e.maximum;
  encoding = e.name_encoding;
  canonical = e.canonical_form;
  points = writes_pointers e.name_encoding;
  candidates = e.candidates;
  places = e.places.items;
}
