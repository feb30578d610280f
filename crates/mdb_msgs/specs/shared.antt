pub mod SameDevices
