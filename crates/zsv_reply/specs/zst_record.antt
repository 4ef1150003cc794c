pub use Rattle.zsv_request.specs.zsv_message.zst_record.Lending
pub use Rattle.zsv_request.specs.zsv_message.zst_record.RecordSets
pub use Rattle.zsv_request.specs.zsv_message.zst_record.Records
pub use Rattle.zsv_request.specs.zsv_message.zst_record.declared
pub use Rattle.zsv_request.specs.zsv_message.zst_record.dnw_name
