-- Records that are lent field by field.
use Rattle.zst_record.specs.declared.records.Record.{Record}
use Rattle.zst_record.specs.declared.records.RecordRef.{RecordRef}
use Rattle.zst_record.specs.Records.{record_with}

-- The record, without the loans.
abbrev pub seen : RecordRef → Record
seen lent = record_with lent.name.now lent.dns_class lent.ttl lent.rdata.now
