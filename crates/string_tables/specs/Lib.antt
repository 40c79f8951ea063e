-- Public contracts cite all of these.
pub mod StaticStrings
pub mod SessionStrings
pub mod StringTable
pub mod Laws
